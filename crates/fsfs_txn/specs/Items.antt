-- The items of a transaction's `changes` file.
use Rattle.std.specs.Prelude.{ℕ, List}
use Rattle.std.specs.List.{AllZip}
use Rattle.fsfs_tree.specs.Nodes.{TreeFunction}
use Rattle.fsfs_model.specs.declared.flat.mark.Mark.{Mark}
use Rattle.fsfs_base.specs.declared.fields.txn_name.TxnName.{TxnName}
use Rattle.fsfs_revision.specs.Told.{RevisionBytes}
use Rattle.fsfs_draft.specs.Drafts.{Folder}
use Rattle.fsfs_edit.specs.Folds.Marks.{SaysMark}
use Rattle.fsfs_txn.specs.Standing.{Stands}

-- each stands for the mark at its place, as items are folded
abbrev pub ItemsSayMarks : Type 0
ItemsSayMarks = (look : RevisionBytes) (trees : ℕ → TreeFunction) (top base : ℕ) (txn : TxnName) (f : Folder) (tree : TreeFunction) (marks : List Mark) → Stands look trees top base txn f tree marks → AllZip SaysMark f.items marks
