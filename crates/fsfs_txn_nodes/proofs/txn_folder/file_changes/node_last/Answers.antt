use Rattle.fsfs_txn_nodes.specs.TxnFolder.Written.{Other}
use Rattle.fsfs_txn_nodes.proofs.SameLemmas.{unlike}
use Rattle.fsfs_txn_nodes.proofs.Writing.{one_file}
use Rattle.fsfs_txn_nodes.proofs.txn_folder.file_changes.node_last.Goals as goal

pub returns : goal.returns
returns c =
    Other c.in_ok-file.file (unlike c.args.old.now c.args.node.now c.same_noderev.result c.same_noderev.ensures c.if-same_noderev.false) c.in_ok-file.ensures
    (one_file c.new-files.result.items c.push.new.self.items c.in_ok-file.file c.new-files.ensures.items c.in_ok-push.ensures.items)
