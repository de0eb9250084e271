use Rattle.fsfs_model.proofs.Legal.{commits_make_a_history}
use Rattle.fsfs_model.proofs.laws.commits_make_a_history.Goals as goal

pub returns : goal.returns
returns c = commits_make_a_history
