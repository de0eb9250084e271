use Rattle.fsfs_txn_nodes.proofs.Writing.{two_files, tells_props}
use Rattle.fsfs_txn_nodes.proofs.txn_folder.file_changes.property_files.Goals as goal

pub returns : goal.returns
returns c =
    tells_props c.args.id.now c.args.node.now c.args.pairs.now c.in_ok-list.list c.in_ok-itself.itself c.push-2.new.self.items c.in_ok-list.ensures c.in_ok-itself.ensures
    (two_files c.new-files.result.items c.push.new.self.items c.push-2.new.self.items c.in_ok-list.list c.in_ok-itself.itself c.new-files.ensures.items c.in_ok-push.ensures.items c.in_ok-push-2.ensures.items)
