use Rattle.fsfs_txn_nodes.proofs.SameLemmas.{contents_decided}
use Rattle.fsfs_txn_nodes.proofs.txn_folder.same.same_contents.Goals as goal

pub returns : goal.returns
returns c = contents_decided c.args.a.now c.args.b.now c.eq.result c.eq.ensures
