use Rattle.fsfs_txn_nodes.proofs.SameLemmas.{path_decided}
use Rattle.fsfs_txn_nodes.proofs.txn_folder.same.same_path.Goals as goal

pub returns : goal.returns
returns c = path_decided c.args.a.now c.args.b.now c.eq.result c.eq.ensures
