-- What a transaction stands for: its base, its tree and its marks.
use Rattle.std.specs.Prelude.{◌≡◌, ◌++◌, ℕ, true, List, [], ◌∷◌, None}
use Rattle.fsfs_base.specs.Paths.{Path}
use Rattle.fsfs_base.specs.declared.kind.Kind.TheVariants.{Dir}
use Rattle.fsfs_tree.specs.Nodes.{TreeFunction}
use Rattle.fsfs_model.specs.Flat.Edits.{accepts, applied, mark_of, parent}
use Rattle.fsfs_model.specs.Flat.Transactions.{IsTransaction}
use Rattle.fsfs_model.specs.declared.flat.edit.Edit.{Edit}
use Rattle.fsfs_model.specs.declared.flat.mark.Mark.{Mark}
use Rattle.fsfs_base.specs.declared.fields.txn_name.TxnName.{TxnName}
use Rattle.fsfs_revision.specs.Told.{RevisionBytes}
use Rattle.fsfs_draft.specs.Drafts.{Folder}
use Rattle.fsfs_draft.specs.Edits.{IsDraftAfter}
use Rattle.fsfs_draft.specs.Walks.{HasKind}

-- they come of accepted edits, over the trees of the revisions, and the folder shows them
pub record Stands (look : RevisionBytes) (trees : ℕ → TreeFunction) (top base : ℕ) (txn : TxnName) (f : Folder) (tree : TreeFunction) (marks : List Mark) : Type 0 where
  pub edits : IsTransaction trees top base tree marks
  pub shows : IsDraftAfter look trees top base txn f tree marks

-- the edit was accepted: the transaction stands for the tree after it, and for one mark more
pub record IsEdited (look : RevisionBytes) (trees : ℕ → TreeFunction) (top base : ℕ) (txn : TxnName) (tree : TreeFunction) (marks : List Mark) (edit : Edit) (f : Folder) : Type 0 where
  pub accepted : accepts edit trees top tree ≡ true
  pub stands : Stands look trees top base txn f (applied edit trees tree) (marks ++ mark_of edit trees tree ∷ [])

-- a directory stands above the path, and nothing at it
abbrev pub IsFree : TreeFunction → Path → Type 0
IsFree tree path = HasKind (tree (parent path)) Dir × (tree path ≡ None)
