use Rattle.std.proofs.Common.{List}
use Rattle.fsfs_revision.specs.Shows.Reading.{DirEntry}
use Rattle.fsfs_dag.specs.Listing.Views.{listed}
use Rattle.fsfs_dag.specs.Entries.{HasPut}
use Rattle.fsfs_draft.specs.Views.{kept_value}
use Rattle.fsfs_txn_nodes.specs.TxnFolder.Telling.{Put}
use Rattle.fsfs_txn_nodes.proofs.Writing.{tells_entry}
use Rattle.fsfs_txn_nodes.proofs.txn_folder.file_changes.put_files.Goals as goal

pub returns : goal.returns
returns c =
    tells_entry c.args.id.now (kept_value c.args.kept.now) (listed c.args.entries.now) c.args.node.now (λ (old new : List DirEntry). HasPut old c.args.name.now c.args.kind c.args.child.now new)
    c.in_ok-record.record c.in_ok-files.files.items c.push.new.self.items c.in_ok-last.last.items c.append.new.self.items
    (λ old new has. Put c.args.name.now c.args.kind c.args.child.now c.in_ok-record.ensures has) c.in_ok-last.ensures c.in_ok-files.ensures c.in_ok-push.ensures.items c.in_ok-append.ensures.items
