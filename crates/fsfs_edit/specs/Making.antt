-- Making a new node at a path: what is left, and when it is refused.
use Rattle.std.specs.Prelude.{◌≡◌, ◌≤◌, ◌++◌, ℕ, true, List, [], ◌∷◌, None, is_some, Result, Ok, Err}
use Rattle.fsfs_base.specs.Paths.{PathName, Path}
use Rattle.fsfs_base.specs.declared.kind.Kind.{Kind}
use Rattle.fsfs_base.specs.declared.kind.Kind.TheVariants.{File, Dir}
use Rattle.fsfs_tree.specs.Nodes.{TreeFunction}
use Rattle.fsfs_tree.specs.Trees.{IsTree}
use Rattle.fsfs_model.specs.declared.flat.edit.Edit.{Edit}
use Rattle.fsfs_model.specs.declared.flat.edit.Edit.TheVariants.{MakeDir, MakeFile}
use Rattle.fsfs_model.specs.declared.flat.mark.Mark.{Mark}
use Rattle.fsfs_base.specs.declared.fields.txn_name.TxnName.{TxnName}
use Rattle.fsfs_revision.specs.Told.{Told, RevisionBytes, Knows}
use Rattle.fsfs_revision.specs.Shows.ByTree.{LacksAt}
use Rattle.fsfs_draft.specs.Drafts.{Folder, ShowTrees}
use Rattle.fsfs_draft.specs.Edits.{IsDraftAfter}
use Rattle.fsfs_draft.specs.Errors.{IfStays}
use Rattle.fsfs_edit.specs.Items.{AddsItem}
use Rattle.fsfs_draft.specs.Names.{IsFull, HasSpace}
use Rattle.fsfs_draft.specs.Walks.{HasKind}
use Rattle.fsfs_edit.specs.Ways.{IsNoDirectory, HasRoom}
use Rattle.fsfs_edit.specs.Meeting.{IsDone}
use Rattle.fsfs_draft.specs.declared.error.EditError.{EditError}
use Rattle.fsfs_edit.specs.declared.make.Made.{Made}
use Rattle.fsfs_edit.specs.declared.make.Made.TheVariants as mades

abbrev pub make_of : Kind → Path → Edit
make_of File path = MakeFile path
make_of Dir path = MakeDir path

abbrev pub IsMadeIn : RevisionBytes → (ℕ → TreeFunction) → ℕ → ℕ → TxnName → TreeFunction → List Mark → Path → Kind → Folder → Type 0
IsMadeIn look trees top base txn tree marks path kind after = IsDone look trees top base txn tree marks (make_of kind path) after × AddsItem after kind path None

-- each refusal has its cause in the tree, in this order: the way to the directory, what stands there, and the number of entries
abbrev pub IsMaking : RevisionBytes → (ℕ → TreeFunction) → ℕ → ℕ → TxnName → TreeFunction → List Mark → Path → PathName → Kind → Folder → Folder → Result Made EditError → Type 0
IsMaking look trees top base txn tree marks p name kind before after (Ok mades.Done) = HasSpace tree p × IsMadeIn look trees top base txn tree marks (p ++ name ∷ []) kind after
IsMaking look trees top base txn tree marks p name kind before after (Ok (mades.NotFound depth)) = LacksAt tree p depth × (after ≡ before)
IsMaking look trees top base txn tree marks p name kind before after (Ok (mades.NotDir depth)) = IsNoDirectory tree p depth × (after ≡ before)
IsMaking look trees top base txn tree marks p name kind before after (Ok mades.Exists) = HasKind (tree p) Dir × (is_some (tree (p ++ name ∷ [])) ≡ true) × (after ≡ before)
IsMaking look trees top base txn tree marks p name kind before after (Ok mades.TooManyEntries) = HasRoom tree p name × IsFull tree p × (after ≡ before)
IsMaking look trees top base txn tree marks p name kind before after (Err e) = IfStays e (after ≡ before)

-- over any draft it is the flat model's edit, or its refusal
abbrev pub MeetsMake : Told → TxnName → Folder → Folder → Path → PathName → Kind → Result Made EditError → Type 0
MeetsMake told txn before after p name kind result = (look : RevisionBytes) (trees : ℕ → TreeFunction) (top base : ℕ) (tree : TreeFunction) (marks : List Mark) → Knows told top look → ShowTrees look top trees → base ≤ top → IsTree tree
    → IsDraftAfter look trees top base txn before tree marks → IsMaking look trees top base txn tree marks p name kind before after result

-- where the directory has nothing of the name
abbrev pub MakesIn : Told → TxnName → Folder → Folder → Folder → Path → PathName → Kind → Result Made EditError → Type 0
MakesIn told txn folder before after p name kind result = (look : RevisionBytes) (trees : ℕ → TreeFunction) (top base : ℕ) (tree : TreeFunction) (marks : List Mark) → Knows told top look → ShowTrees look top trees → base ≤ top → IsTree tree
    → IsDraftAfter look trees top base txn folder tree marks → HasRoom tree p name → IsMaking look trees top base txn tree marks p name kind before after result
