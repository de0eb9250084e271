use Rattle.std.proofs.Common.{ap, ◌∙◌}
use Rattle.fsfs_dag.specs.Views.{entry_values}
use Rattle.fsfs_dag.specs.Listing.Views.{listed}
use Rattle.fsfs_txn_nodes.proofs.Writing.{two_files, tells_merged}
use Rattle.fsfs_txn_nodes.proofs.txn_folder.file_changes.merged_files.Goals as goal

pub returns : goal.returns
returns c =
    tells_merged c.args.id.now (listed c.args.entries.now) (entry_values c.deref.result.now) c.args.node.now c.in_ok-list.list c.in_ok-itself.itself c.push-2.new.self.items (ap entry_values c.deref.ensures.value ∙ c.in_ok-all.ensures) c.in_ok-list.ensures c.in_ok-itself.ensures
    (two_files c.new-files.result.items c.push.new.self.items c.push-2.new.self.items c.in_ok-list.list c.in_ok-itself.itself c.new-files.ensures.items c.in_ok-push.ensures.items c.in_ok-push-2.ensures.items)
