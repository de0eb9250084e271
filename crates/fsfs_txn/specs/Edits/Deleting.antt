-- A delete at a path: what is left, and when it is refused.
use Rattle.std.specs.Prelude.{◌≡◌, ◌≤◌, ℕ, Bool, true, false, List, [], is_some, Result, Ok, Err}
use Rattle.fsfs_base.specs.Paths.{Path}
use Rattle.fsfs_tree.specs.Nodes.{TreeFunction}
use Rattle.fsfs_tree.specs.Histories.{AreRevisions}
use Rattle.fsfs_model.specs.Flat.Edits.{parent}
use Rattle.fsfs_model.specs.declared.flat.edit.Edit.TheVariants.{Delete}
use Rattle.fsfs_model.specs.declared.flat.mark.Mark.{Mark}
use Rattle.fsfs_base.specs.declared.fields.txn_name.TxnName.{TxnName}
use Rattle.fsfs_revision.specs.Told.{Told, RevisionBytes, Knows}
use Rattle.fsfs_revision.specs.Shows.ByTree.{LacksAt}
use Rattle.fsfs_draft.specs.Own.{Own}
use Rattle.fsfs_draft.specs.Drafts.{Folder, ShowTrees}
use Rattle.fsfs_draft.specs.Errors as errors
use Rattle.fsfs_draft.specs.declared.error.EditError.{EditError}
use Rattle.fsfs_edit.specs.Ways.{IsNoDirectory}
use Rattle.fsfs_edit.specs.declared.delete.Gone.{Gone}
use Rattle.fsfs_edit.specs.declared.delete.Gone.TheVariants as gones
use Rattle.fsfs_txn.specs.declared.edits.deleting.Deleted.{Deleted}
use Rattle.fsfs_txn.specs.declared.edits.deleting.Deleted.TheVariants as deletes
use Rattle.fsfs_txn.specs.declared.txn_error.TxnError.{TxnError}
use Rattle.fsfs_txn.specs.Edits.Mergeinfo.{MeetsCounts, LacksCounts}
use Rattle.fsfs_txn.specs.Spending.{IfStays}
use Rattle.fsfs_txn.specs.Standing.{Stands, IsEdited, IsFree}

abbrev pub outcome_of : Gone → Deleted
outcome_of gones.Done = deletes.Done
outcome_of (gones.NotFound depth) = deletes.NotFound depth
outcome_of (gones.NotDir depth) = deletes.NotDir depth
outcome_of gones.Absent = deletes.Absent

abbrev pub is_deleted : Deleted → Bool
is_deleted deletes.Done = true
is_deleted (deletes.NotFound depth) = false
is_deleted (deletes.NotDir depth) = false
is_deleted deletes.Absent = false
is_deleted deletes.RootFixed = false
is_deleted deletes.Mergeinfo = false

-- each refusal has its cause, in this order: the way to the directory in the tree, and what stands there; or that it is the root; and
-- counts of mergeinfo; `Stays` says what a failure leaves
abbrev pub IsDeleting : {E : Type 0} → (E → Type 0 → Type 0) → RevisionBytes → (ℕ → TreeFunction) → ℕ → ℕ → TxnName → Own → TreeFunction → List Mark → Path → Folder → Folder → Result Deleted E → Type 0
IsDeleting Stays look trees top base txn own tree marks path before after (Ok deletes.Done) = LacksCounts look trees base own (parent path) × IsEdited look trees top base txn tree marks (Delete path) after
IsDeleting Stays look trees top base txn own tree marks path before after (Ok (deletes.NotFound depth)) = LacksAt tree (parent path) depth × (after ≡ before)
IsDeleting Stays look trees top base txn own tree marks path before after (Ok (deletes.NotDir depth)) = IsNoDirectory tree (parent path) depth × (after ≡ before)
IsDeleting Stays look trees top base txn own tree marks path before after (Ok deletes.Absent) = IsFree tree path × (after ≡ before)
IsDeleting Stays look trees top base txn own tree marks path before after (Ok deletes.RootFixed) = (path ≡ []) × (after ≡ before)
IsDeleting Stays look trees top base txn own tree marks path before after (Ok deletes.Mergeinfo) = (is_some (tree path) ≡ true) × MeetsCounts look trees base own (parent path) × (after ≡ before)
IsDeleting Stays look trees top base txn own tree marks path before after (Err e) = Stays e (after ≡ before)

-- over any history that the bytes show it is the flat model's edit, or its refusal
abbrev pub Deletes : Told → TxnName → Folder → Folder → Path → Result Deleted EditError → Type 0
Deletes told txn before after path result = (look : RevisionBytes) (trees : ℕ → TreeFunction) (top base : ℕ) (tree : TreeFunction) (marks : List Mark) → Knows told top look → ShowTrees look top trees → AreRevisions trees top → base ≤ top
    → (stands : Stands look trees top base txn before tree marks) → IsDeleting errors.IfStays look trees top base txn stands.shows.0.shows.own tree marks path before after result

abbrev pub MeetsDeleting : Told → ℕ → TxnName → Folder → Folder → Path → Result Deleted TxnError → Type 0
MeetsDeleting told base txn before after path result = (look : RevisionBytes) (trees : ℕ → TreeFunction) (top : ℕ) (tree : TreeFunction) (marks : List Mark) → Knows told top look → ShowTrees look top trees → AreRevisions trees top → base ≤ top
    → (stands : Stands look trees top base txn before tree marks) → IsDeleting IfStays look trees top base txn stands.shows.0.shows.own tree marks path before after result
