use Rattle.fsfs_txn_nodes.proofs.SameLemmas.{id_decided}
use Rattle.fsfs_txn_nodes.proofs.txn_folder.same.same_node_id.Goals as goal

pub returns : goal.returns
returns c = id_decided c.args.a.now c.args.b.now c.same_id.result c.same_id.ensures
