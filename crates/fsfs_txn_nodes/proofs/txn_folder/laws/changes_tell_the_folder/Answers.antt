use Rattle.fsfs_txn_nodes.proofs.StepLemmas.{changes_tell}
use Rattle.fsfs_txn_nodes.proofs.txn_folder.laws.changes_tell_the_folder.Goals as goal

pub returns : goal.returns
returns c = changes_tell
