use Rattle.std.proofs.Common.{List}
use Rattle.fsfs_revision.specs.Shows.Reading.{DirEntry}
use Rattle.fsfs_dag.specs.Listing.Views.{listed}
use Rattle.fsfs_dag.specs.Entries.{HasPut}
use Rattle.fsfs_draft.specs.Views.{kept_value}
use Rattle.fsfs_txn_nodes.proofs.Writing.{tells_child}
use Rattle.fsfs_txn_nodes.proofs.txn_folder.file_changes.child_files.Goals as goal

pub returns : goal.returns
returns c =
    tells_child c.args.id.now (kept_value c.args.kept.now) (listed c.args.entries.now) c.args.node.now c.args.child.now (λ (old new : List DirEntry). HasPut old c.args.name.now c.args.kind c.args.child.now.id new)
    c.in_ok-files.files.items c.in_ok-put.put.items c.append.new.self.items c.in_ok-append.ensures.items c.in_ok-files.ensures c.in_ok-put.ensures
