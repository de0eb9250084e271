use Rattle.fsfs_final.proofs.NextShownLaw.{next_is_shown}
use Rattle.fsfs_final.proofs.laws.the_next_revision_is_shown.Goals as goal

pub returns : goal.returns
returns c = next_is_shown
