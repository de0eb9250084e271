use Rattle.std.proofs.Common.{List}
use Rattle.fsfs_revision.specs.Shows.Reading.{DirEntry}
use Rattle.fsfs_dag.specs.Listing.Views.{listed}
use Rattle.fsfs_dag.specs.Entries.{HasTaken}
use Rattle.fsfs_draft.specs.Views.{kept_value}
use Rattle.fsfs_txn_nodes.specs.TxnFolder.Telling.{Taken}
use Rattle.fsfs_txn_nodes.proofs.Writing.{tells_entry}
use Rattle.fsfs_txn_nodes.proofs.txn_folder.file_changes.taken_files.Goals as goal

pub returns : goal.returns
returns c =
    tells_entry c.args.id.now (kept_value c.args.kept.now) (listed c.args.entries.now) c.args.node.now (λ (old new : List DirEntry). HasTaken old c.args.name.now new)
    c.in_ok-record.record c.in_ok-files.files.items c.push.new.self.items c.in_ok-last.last.items c.append.new.self.items
    (λ old new less. Taken c.args.name.now c.in_ok-record.ensures less) c.in_ok-last.ensures c.in_ok-files.ensures c.in_ok-push.ensures.items c.in_ok-append.ensures.items
