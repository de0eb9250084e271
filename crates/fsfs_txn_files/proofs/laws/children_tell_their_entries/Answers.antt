use Rattle.fsfs_txn_files.proofs.TailLemmas.{tell}
use Rattle.fsfs_txn_files.proofs.laws.children_tell_their_entries.Goals as goal

pub returns : goal.returns
returns c = tell
