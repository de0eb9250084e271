use Rattle.fsfs_revision.proofs.Walks.{first_of_met, met_of_first}
use Rattle.fsfs_revision.proofs.laws.shows.damage_is_the_first.Goals as goal

pub returns : goal.returns
returns c = λ look rev path w. (first_of_met look rev w path, met_of_first look rev w path)
