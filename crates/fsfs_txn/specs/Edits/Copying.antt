-- A copy put at a path: what is left, and when it is refused.
use Rattle.std.specs.Prelude.{◌≡◌, ◌≤◌, ◌<◌, ◌⊎◌, ◌++◌, ℕ, Bool, true, false, List, [], ◌∷◌, Option, Some, is_some, Result, Ok, Err}
use Rattle.fsfs_base.specs.Paths.{PathName, Path}
use Rattle.fsfs_base.specs.declared.kind.Kind.TheVariants.{Dir}
use Rattle.fsfs_tree.specs.Nodes.{TreeFunction}
use Rattle.fsfs_tree.specs.Histories.{AreRevisions}
use Rattle.fsfs_model.specs.Flat.Edits.{parent}
use Rattle.fsfs_model.specs.declared.flat.edit.Edit.TheVariants.{Copy}
use Rattle.fsfs_model.specs.declared.flat.mark.Mark.{Mark}
use Rattle.fsfs_base.specs.declared.fields.txn_name.TxnName.{TxnName}
use Rattle.fsfs_revision.specs.Told.{Told, RevisionBytes, Knows}
use Rattle.fsfs_noderev.specs.declared.node_rev.CopySource.{CopySource}
use Rattle.fsfs_revision.specs.Shows.ByTree.{LacksAt, IsBlockedAt}
use Rattle.fsfs_draft.specs.Own.{Own}
use Rattle.fsfs_draft.specs.Drafts.{Folder, ShowTrees}
use Rattle.fsfs_draft.specs.Errors as errors
use Rattle.fsfs_draft.specs.Names.{IsFull, HasSpace}
use Rattle.fsfs_draft.specs.Walks.{IsAt, HasKind}
use Rattle.fsfs_draft.specs.declared.error.EditError.{EditError}
use Rattle.fsfs_draft.specs.declared.walk.Step.{Step}
use Rattle.fsfs_edit.specs.Ways.{IsNoDirectory}
use Rattle.fsfs_edit.specs.declared.copy.Copied as edit
use Rattle.fsfs_edit.specs.declared.copy.Copied.TheVariants as edits
use Rattle.fsfs_txn.specs.declared.edits.copying.Copied.{Copied}
use Rattle.fsfs_txn.specs.declared.edits.copying.Copied.TheVariants as copies
use Rattle.fsfs_txn.specs.declared.edits.sources.Source.{Source}
use Rattle.fsfs_txn.specs.declared.edits.sources.Source.TheVariants as sources
use Rattle.fsfs_txn.specs.declared.txn_error.TxnError.{TxnError}
use Rattle.fsfs_txn.specs.Edits.Mergeinfo.{RevisionHas, MeetsCounts, LacksCounts}
use Rattle.fsfs_txn.specs.Spending.{IfStays}
use Rattle.fsfs_txn.specs.Standing.{Stands, IsEdited, IsFree}

abbrev pub outcome_of : edit.Copied → Copied
outcome_of edits.Done = copies.Done
outcome_of (edits.NotFound depth) = copies.NotFound depth
outcome_of (edits.NotDir depth) = copies.NotDir depth
outcome_of edits.Exists = copies.Exists
outcome_of (edits.NoRev youngest) = copies.NoRev youngest
outcome_of (edits.SourceNotFound depth) = copies.SourceNotFound depth
outcome_of (edits.SourceNotDir depth) = copies.SourceNotDir depth
outcome_of edits.TooManyEntries = copies.TooManyEntries

abbrev pub is_copied : Copied → Bool
is_copied copies.Done = true
is_copied (copies.NotFound depth) = false
is_copied (copies.NotDir depth) = false
is_copied copies.Exists = false
is_copied (copies.NoRev youngest) = false
is_copied (copies.SourceNotFound depth) = false
is_copied (copies.SourceNotDir depth) = false
is_copied copies.Mergeinfo = false
is_copied copies.TooManyEntries = false

-- why what stands at the source can't be copied, where nothing else is in the way
abbrev pub barred_by : Source → Copied
barred_by (sources.NoRev youngest) = copies.NoRev youngest
barred_by (sources.NotFound depth) = copies.SourceNotFound depth
barred_by (sources.NotDir depth) = copies.SourceNotDir depth
barred_by (sources.Node counted) = copies.Mergeinfo

-- counts of mergeinfo are met on the way to the directory, or at the source
abbrev pub MeetsEither : RevisionBytes → (ℕ → TreeFunction) → ℕ → Own → Path → CopySource → Type 0
MeetsEither look trees base own path from = MeetsCounts look trees base own (parent path) ⊎ RevisionHas look from.rev from.path true

-- at neither
abbrev pub LacksBoth : RevisionBytes → (ℕ → TreeFunction) → ℕ → Own → Path → CopySource → Type 0
LacksBoth look trees base own path from = LacksCounts look trees base own (parent path) × RevisionHas look from.rev from.path false

-- each refusal has its cause, in this order: the way to the directory in the tree, what stands there, the revision, the source, counts of
-- mergeinfo, and the number of entries; `Stays` says what a failure leaves
abbrev pub IsCopying : {E : Type 0} → (E → Type 0 → Type 0) → RevisionBytes → (ℕ → TreeFunction) → ℕ → ℕ → TxnName → Own → TreeFunction → List Mark → Path → CopySource → Folder → Folder → Result Copied E → Type 0
IsCopying Stays look trees top base txn own tree marks path from before after (Ok copies.Done) = LacksBoth look trees base own path from × HasSpace tree (parent path) × IsEdited look trees top base txn tree marks (Copy from.rev from.path path) after
IsCopying Stays look trees top base txn own tree marks path from before after (Ok (copies.NotFound depth)) = LacksAt tree (parent path) depth × (after ≡ before)
IsCopying Stays look trees top base txn own tree marks path from before after (Ok (copies.NotDir depth)) = IsNoDirectory tree (parent path) depth × (after ≡ before)
IsCopying Stays look trees top base txn own tree marks path from before after (Ok copies.Exists) = (is_some (tree path) ≡ true) × (after ≡ before)
IsCopying Stays look trees top base txn own tree marks path from before after (Ok (copies.NoRev youngest)) = IsFree tree path × (youngest ≡ top) × (top < from.rev) × (after ≡ before)
IsCopying Stays look trees top base txn own tree marks path from before after (Ok (copies.SourceNotFound depth)) = IsFree tree path × (from.rev ≤ top) × LacksAt (trees from.rev) from.path depth × (after ≡ before)
IsCopying Stays look trees top base txn own tree marks path from before after (Ok (copies.SourceNotDir depth)) = IsFree tree path × (from.rev ≤ top) × IsBlockedAt (trees from.rev) from.path depth × (after ≡ before)
IsCopying Stays look trees top base txn own tree marks path from before after (Ok copies.Mergeinfo) = IsFree tree path × (from.rev ≤ top) × (is_some (trees from.rev from.path) ≡ true) × MeetsEither look trees base own path from × (after ≡ before)
IsCopying Stays look trees top base txn own tree marks path from before after (Ok copies.TooManyEntries) = IsFree tree path × (from.rev ≤ top) × (is_some (trees from.rev from.path) ≡ true) × LacksBoth look trees base own path from × IsFull tree (parent path) × (after ≡ before)
IsCopying Stays look trees top base txn own tree marks path from before after (Err e) = Stays e (after ≡ before)

-- over any history that the bytes show, and a book that has no younger revision, it is the flat model's edit, or its refusal
abbrev pub Copies : Told → Option ℕ → TxnName → Folder → Folder → Path → CopySource → Result Copied EditError → Type 0
Copies told youngest txn before after path from result = (look : RevisionBytes) (trees : ℕ → TreeFunction) (top base : ℕ) (tree : TreeFunction) (marks : List Mark) → Knows told top look → ShowTrees look top trees → AreRevisions trees top → base ≤ top → youngest ≡ Some top
    → (stands : Stands look trees top base txn before tree marks) → IsCopying errors.IfStays look trees top base txn stands.shows.0.shows.own tree marks path from before after result

-- where a directory stands above the path, and no counts are met on the way to it
abbrev pub CopiesIn : Told → Option ℕ → TxnName → Folder → Folder → Path → PathName → Step → CopySource → Result Copied EditError → Type 0
CopiesIn told youngest txn before after dir name step from result = (look : RevisionBytes) (trees : ℕ → TreeFunction) (top base : ℕ) (tree : TreeFunction) (marks : List Mark) (path : Path) → Knows told top look → ShowTrees look top trees → AreRevisions trees top → base ≤ top → youngest ≡ Some top
    → (stands : Stands look trees top base txn before tree marks) → dir ≡ parent path → path ≡ parent path ++ name ∷ [] → HasKind (tree (parent path)) Dir → IsAt look trees base stands.shows.0.shows.own (parent path) step → LacksCounts look trees base stands.shows.0.shows.own (parent path)
    → IsCopying errors.IfStays look trees top base txn stands.shows.0.shows.own tree marks path from before after result

abbrev pub MeetsCopying : Told → Option ℕ → ℕ → TxnName → Folder → Folder → Path → CopySource → Result Copied TxnError → Type 0
MeetsCopying told youngest base txn before after path from result = (look : RevisionBytes) (trees : ℕ → TreeFunction) (top : ℕ) (tree : TreeFunction) (marks : List Mark) → Knows told top look → ShowTrees look top trees → AreRevisions trees top → base ≤ top → youngest ≡ Some top
    → (stands : Stands look trees top base txn before tree marks) → IsCopying IfStays look trees top base txn stands.shows.0.shows.own tree marks path from before after result
