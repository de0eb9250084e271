use Rattle.fsfs_txn_nodes.proofs.Writing.{tells_settled}
use Rattle.fsfs_txn_nodes.proofs.txn_folder.file_changes.settled_files.Goals as goal

pub returns : goal.returns
returns c = tells_settled c.args.next.now c.args.item.now c.in_ok-last.last c.in_ok-files.files.items c.push.new.self.items c.in_ok-files.ensures c.in_ok-last.ensures c.in_ok-push.ensures.items
