use Rattle.fsfs_stands.proofs.FirstHistory.{first_history}
use Rattle.fsfs_stands.proofs.laws.the_first_history_is_shown.Goals as goal

pub returns : goal.returns
returns c = first_history
