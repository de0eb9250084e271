-- A new node at a path: what is left, and when it is refused.
use Rattle.std.specs.Prelude.{◌≡◌, ◌≤◌, ℕ, Bool, true, false, List, is_some, Result, Ok, Err}
use Rattle.fsfs_base.specs.Paths.{Path}
use Rattle.fsfs_base.specs.declared.kind.Kind.{Kind}
use Rattle.fsfs_tree.specs.Nodes.{TreeFunction}
use Rattle.fsfs_tree.specs.Histories.{AreRevisions}
use Rattle.fsfs_model.specs.Flat.Edits.{parent}
use Rattle.fsfs_model.specs.declared.flat.mark.Mark.{Mark}
use Rattle.fsfs_base.specs.declared.fields.txn_name.TxnName.{TxnName}
use Rattle.fsfs_revision.specs.Told.{Told, RevisionBytes, Knows}
use Rattle.fsfs_revision.specs.Shows.ByTree.{LacksAt}
use Rattle.fsfs_draft.specs.Own.{Own}
use Rattle.fsfs_draft.specs.Drafts.{Folder, ShowTrees}
use Rattle.fsfs_draft.specs.Errors as errors
use Rattle.fsfs_draft.specs.Names.{IsFull, HasSpace}
use Rattle.fsfs_draft.specs.declared.error.EditError.{EditError}
use Rattle.fsfs_edit.specs.Ways.{IsNoDirectory}
use Rattle.fsfs_edit.specs.Making.{make_of}
use Rattle.fsfs_edit.specs.declared.make.Made as edit
use Rattle.fsfs_edit.specs.declared.make.Made.TheVariants as edits
use Rattle.fsfs_txn.specs.declared.edits.making.Made.{Made}
use Rattle.fsfs_txn.specs.declared.edits.making.Made.TheVariants as mades
use Rattle.fsfs_txn.specs.declared.txn_error.TxnError.{TxnError}
use Rattle.fsfs_txn.specs.Edits.Mergeinfo.{MeetsCounts, LacksCounts}
use Rattle.fsfs_txn.specs.Spending.{IfStays}
use Rattle.fsfs_txn.specs.Standing.{Stands, IsEdited, IsFree}

abbrev pub outcome_of : edit.Made → Made
outcome_of edits.Done = mades.Done
outcome_of (edits.NotFound depth) = mades.NotFound depth
outcome_of (edits.NotDir depth) = mades.NotDir depth
outcome_of edits.Exists = mades.Exists
outcome_of edits.TooManyEntries = mades.TooManyEntries

abbrev pub is_made : Made → Bool
is_made mades.Done = true
is_made (mades.NotFound depth) = false
is_made (mades.NotDir depth) = false
is_made mades.Exists = false
is_made mades.Mergeinfo = false
is_made mades.TooManyEntries = false

-- each refusal has its cause, in this order: the way to the directory in the tree, what stands there, counts of mergeinfo, and the number
-- of entries; `Stays` says what a failure leaves
abbrev pub IsMaking : {E : Type 0} → (E → Type 0 → Type 0) → RevisionBytes → (ℕ → TreeFunction) → ℕ → ℕ → TxnName → Own → TreeFunction → List Mark → Path → Kind → Folder → Folder → Result Made E → Type 0
IsMaking Stays look trees top base txn own tree marks path kind before after (Ok mades.Done) = LacksCounts look trees base own (parent path) × HasSpace tree (parent path) × IsEdited look trees top base txn tree marks (make_of kind path) after
IsMaking Stays look trees top base txn own tree marks path kind before after (Ok (mades.NotFound depth)) = LacksAt tree (parent path) depth × (after ≡ before)
IsMaking Stays look trees top base txn own tree marks path kind before after (Ok (mades.NotDir depth)) = IsNoDirectory tree (parent path) depth × (after ≡ before)
IsMaking Stays look trees top base txn own tree marks path kind before after (Ok mades.Exists) = (is_some (tree path) ≡ true) × (after ≡ before)
IsMaking Stays look trees top base txn own tree marks path kind before after (Ok mades.Mergeinfo) = IsFree tree path × MeetsCounts look trees base own (parent path) × (after ≡ before)
IsMaking Stays look trees top base txn own tree marks path kind before after (Ok mades.TooManyEntries) = IsFree tree path × LacksCounts look trees base own (parent path) × IsFull tree (parent path) × (after ≡ before)
IsMaking Stays look trees top base txn own tree marks path kind before after (Err e) = Stays e (after ≡ before)

-- over any history that the bytes show it is the flat model's edit, or its refusal
abbrev pub Makes : Told → TxnName → Folder → Folder → Path → Kind → Result Made EditError → Type 0
Makes told txn before after path kind result = (look : RevisionBytes) (trees : ℕ → TreeFunction) (top base : ℕ) (tree : TreeFunction) (marks : List Mark) → Knows told top look → ShowTrees look top trees → AreRevisions trees top → base ≤ top
    → (stands : Stands look trees top base txn before tree marks) → IsMaking errors.IfStays look trees top base txn stands.shows.0.shows.own tree marks path kind before after result

abbrev pub MeetsMaking : Told → ℕ → TxnName → Folder → Folder → Path → Kind → Result Made TxnError → Type 0
MeetsMaking told base txn before after path kind result = (look : RevisionBytes) (trees : ℕ → TreeFunction) (top : ℕ) (tree : TreeFunction) (marks : List Mark) → Knows told top look → ShowTrees look top trees → AreRevisions trees top → base ≤ top
    → (stands : Stands look trees top base txn before tree marks) → IsMaking IfStays look trees top base txn stands.shows.0.shows.own tree marks path kind before after result
