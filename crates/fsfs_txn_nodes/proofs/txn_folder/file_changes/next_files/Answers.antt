use Rattle.fsfs_txn_nodes.proofs.Writing.{one_file, tells_next}
use Rattle.fsfs_txn_nodes.proofs.txn_folder.file_changes.next_files.Goals as goal

pub returns : goal.returns
returns c = tells_next c.args.next.now c.in_ok-file.file c.push.new.self.items c.in_ok-file.ensures (one_file c.new-files.result.items c.push.new.self.items c.in_ok-file.file c.new-files.ensures.items c.in_ok-push.ensures.items)
