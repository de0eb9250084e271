-- Putting a copy at a path: what is left, and when it is refused.
use Rattle.std.specs.Prelude.{◌≡◌, ◌≤◌, ◌<◌, ◌++◌, ℕ, true, List, [], ◌∷◌, Option, Some, is_some, Result, Ok, Err}
use Rattle.fsfs_base.specs.Paths.{PathName, Path}
use Rattle.fsfs_base.specs.declared.kind.Kind.TheVariants.{Dir}
use Rattle.fsfs_tree.specs.Nodes.{TreeFunction}
use Rattle.fsfs_tree.specs.Trees.{IsTree}
use Rattle.fsfs_model.specs.Flat.Edits.{kind_of_node}
use Rattle.fsfs_model.specs.declared.flat.edit.Edit.TheVariants.{Copy}
use Rattle.fsfs_model.specs.declared.flat.mark.Mark.{Mark}
use Rattle.fsfs_base.specs.declared.fields.txn_name.TxnName.{TxnName}
use Rattle.fsfs_revision.specs.Told.{Told, RevisionBytes, Knows}
use Rattle.fsfs_noderev.specs.declared.node_rev.CopySource.{CopySource}
use Rattle.fsfs_noderev.specs.declared.node_rev.NodeRev.{NodeRev}
use Rattle.fsfs_revision.specs.Shows.Reading.{StandsAt}
use Rattle.fsfs_revision.specs.Shows.ByTree.{LacksAt, IsBlockedAt}
use Rattle.fsfs_draft.specs.Drafts.{Folder, ShowTrees}
use Rattle.fsfs_draft.specs.Edits.{IsDraftAfter}
use Rattle.fsfs_draft.specs.Errors.{IsFailure, IfStays}
use Rattle.fsfs_edit.specs.Items.{AddsItem}
use Rattle.fsfs_draft.specs.Names.{IsFull, HasSpace}
use Rattle.fsfs_draft.specs.Walks.{HasKind}
use Rattle.fsfs_edit.specs.Ways.{IsNoDirectory, HasRoom}
use Rattle.fsfs_edit.specs.Meeting.{IsDone}
use Rattle.fsfs_draft.specs.declared.error.EditError.{EditError}
use Rattle.fsfs_edit.specs.declared.copy.Copied.{Copied}
use Rattle.fsfs_edit.specs.declared.copy.Copied.TheVariants as copies
use Rattle.fsfs_edit.specs.declared.copy.Source.{Source}
use Rattle.fsfs_edit.specs.declared.copy.Source.TheVariants as sources

-- ---- the source

abbrev pub IsSource : RevisionBytes → (ℕ → TreeFunction) → ℕ → CopySource → Result Source EditError → Type 0
IsSource look trees top from (Ok (sources.NoRev youngest)) = (youngest ≡ top) × (top < from.rev)
IsSource look trees top from (Ok (sources.Absent depth)) = (from.rev ≤ top) × LacksAt (trees from.rev) from.path depth
IsSource look trees top from (Ok (sources.File depth)) = (from.rev ≤ top) × IsBlockedAt (trees from.rev) from.path depth
IsSource look trees top from (Ok (sources.Node found)) = (from.rev ≤ top) × StandsAt look from.rev from.path found.node × HasKind (trees from.rev from.path) found.node.kind
IsSource look trees top from (Err e) = IsFailure e

-- over a book that has no younger revision
abbrev pub FindsSource : Told → Option ℕ → CopySource → Result Source EditError → Type 0
FindsSource told youngest from result = (look : RevisionBytes) (trees : ℕ → TreeFunction) (top : ℕ) → Knows told top look → ShowTrees look top trees → youngest ≡ Some top → IsSource look trees top from result

-- ---- the copy

abbrev pub IsCopiedTo : RevisionBytes → (ℕ → TreeFunction) → ℕ → ℕ → TxnName → TreeFunction → List Mark → Path → CopySource → Folder → Type 0
IsCopiedTo look trees top base txn tree marks path from after = IsDone look trees top base txn tree marks (Copy from.rev from.path path) after × AddsItem after (kind_of_node (trees from.rev from.path)) path (Some from)

-- each refusal has its cause in the trees, in this order: the way to the directory, what stands there, the revision, the
-- source, and the number of entries
abbrev pub IsCopying : RevisionBytes → (ℕ → TreeFunction) → ℕ → ℕ → TxnName → TreeFunction → List Mark → Path → PathName → CopySource → Folder → Folder → Result Copied EditError → Type 0
IsCopying look trees top base txn tree marks p name from before after (Ok copies.Done) = HasSpace tree p × IsCopiedTo look trees top base txn tree marks (p ++ name ∷ []) from after
IsCopying look trees top base txn tree marks p name from before after (Ok (copies.NotFound depth)) = LacksAt tree p depth × (after ≡ before)
IsCopying look trees top base txn tree marks p name from before after (Ok (copies.NotDir depth)) = IsNoDirectory tree p depth × (after ≡ before)
IsCopying look trees top base txn tree marks p name from before after (Ok copies.Exists) = HasKind (tree p) Dir × (is_some (tree (p ++ name ∷ [])) ≡ true) × (after ≡ before)
IsCopying look trees top base txn tree marks p name from before after (Ok (copies.NoRev youngest)) = HasRoom tree p name × (youngest ≡ top) × (top < from.rev) × (after ≡ before)
IsCopying look trees top base txn tree marks p name from before after (Ok (copies.SourceNotFound depth)) = HasRoom tree p name × (from.rev ≤ top) × LacksAt (trees from.rev) from.path depth × (after ≡ before)
IsCopying look trees top base txn tree marks p name from before after (Ok (copies.SourceNotDir depth)) = HasRoom tree p name × (from.rev ≤ top) × IsBlockedAt (trees from.rev) from.path depth × (after ≡ before)
IsCopying look trees top base txn tree marks p name from before after (Ok copies.TooManyEntries) = HasRoom tree p name × (from.rev ≤ top) × (is_some (trees from.rev from.path) ≡ true) × IsFull tree p × (after ≡ before)
IsCopying look trees top base txn tree marks p name from before after (Err e) = IfStays e (after ≡ before)

-- over any draft and a book that has no younger revision it is the flat model's edit, or its refusal
abbrev pub MeetsCopy : Told → Option ℕ → TxnName → Folder → Folder → Path → PathName → CopySource → Result Copied EditError → Type 0
MeetsCopy told youngest txn before after p name from result = (look : RevisionBytes) (trees : ℕ → TreeFunction) (top base : ℕ) (tree : TreeFunction) (marks : List Mark) → Knows told top look → ShowTrees look top trees → base ≤ top → IsTree tree → youngest ≡ Some top
    → IsDraftAfter look trees top base txn before tree marks → IsCopying look trees top base txn tree marks p name from before after result

-- where the directory has nothing of the name
abbrev pub CopiesFree : Told → Option ℕ → TxnName → Folder → Folder → Folder → Path → PathName → CopySource → Result Copied EditError → Type 0
CopiesFree told youngest txn folder before after p name from result = (look : RevisionBytes) (trees : ℕ → TreeFunction) (top base : ℕ) (tree : TreeFunction) (marks : List Mark) → Knows told top look → ShowTrees look top trees → base ≤ top → IsTree tree → youngest ≡ Some top
    → IsDraftAfter look trees top base txn folder tree marks → HasRoom tree p name → IsCopying look trees top base txn tree marks p name from before after result

-- and the source stands there
abbrev pub CopiesIn : Told → TxnName → Folder → Folder → Folder → Path → PathName → NodeRev → CopySource → Result Copied EditError → Type 0
CopiesIn told txn folder before after p name source from result = (look : RevisionBytes) (trees : ℕ → TreeFunction) (top base : ℕ) (tree : TreeFunction) (marks : List Mark) → Knows told top look → ShowTrees look top trees → base ≤ top → IsTree tree
    → IsDraftAfter look trees top base txn folder tree marks → HasRoom tree p name → from.rev ≤ top → StandsAt look from.rev from.path source → HasKind (trees from.rev from.path) source.kind
    → IsCopying look trees top base txn tree marks p name from before after result
