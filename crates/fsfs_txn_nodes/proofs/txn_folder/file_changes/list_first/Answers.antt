use Rattle.std.proofs.Common.{List, sym, subst, ap, ◌∙◌}
use Rattle.std.specs.Prelude.{Option, option_map}
use Rattle.fsfs_revision.specs.Shows.Reading.{DirEntry}
use Rattle.fsfs_dag.specs.Views.{entry_values}
use Rattle.fsfs_dag.specs.declared.listing.entries.Listing.{Listing}
use Rattle.fsfs_dag.specs.Listing.Views.{listed}
use Rattle.fsfs_txn_files.specs.Changes.{IsChange}
use Rattle.fsfs_txn_files.specs.Children.{IsWholeList}
use Rattle.fsfs_txn_files.specs.declared.change.How.TheVariants.{Whole}
use Rattle.fsfs_txn_files.specs.declared.folder_file.FolderFile.TheVariants.{Children}
use Rattle.fsfs_txn_nodes.specs.TxnFolder.Written.{IsListFirst}
use Rattle.fsfs_txn_nodes.proofs.Writing.{one_file}
use Rattle.fsfs_txn_nodes.proofs.txn_folder.file_changes.list_first.Goals as goal

pub returns-in_ok-push-in-None : goal.returns-in_ok-push-in-None
returns-in_ok-push-in-None c =
    let file = c.in_ok-file-in-None.file in
    let list = subst (λ (es : List DirEntry). IsChange file (Children c.args.id.now) Whole (IsWholeList es)) (ap entry_values c.deref.ensures.value ∙ c.in_ok-all-in-None.ensures) c.in_ok-file-in-None.ensures in
    subst (λ (o : Option Listing). IsListFirst c.args.id.now (option_map listed o) (listed c.args.entries.now) c.push.new.self.items) (sym c.in-None.is)
    (file, list, one_file c.new-files.result.items c.push.new.self.items file c.new-files.ensures.items c.in_ok-push-in-None.ensures.items)
