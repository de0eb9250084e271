-- A delete at a path: what is left, and when it is refused.
use Rattle.std.specs.Prelude.{◌≡◌, ◌≤◌, ◌++◌, ℕ, List, [], ◌∷◌, Option, Some, None, Result, Ok, Err}
use Rattle.fsfs_base.specs.Paths.{PathName, Path}
use Rattle.fsfs_base.specs.declared.kind.Kind.TheVariants.{Dir}
use Rattle.fsfs_tree.specs.Nodes.{TreeFunction}
use Rattle.fsfs_tree.specs.Trees.{IsTree}
use Rattle.fsfs_model.specs.Flat.Edits.{kind_of_node}
use Rattle.fsfs_model.specs.declared.flat.edit.Edit.TheVariants.{Delete}
use Rattle.fsfs_model.specs.declared.flat.mark.Mark.{Mark}
use Rattle.fsfs_base.specs.declared.fields.txn_name.TxnName.{TxnName}
use Rattle.fsfs_revision.specs.Told.{Told, RevisionBytes, Knows}
use Rattle.fsfs_noderev.specs.declared.node_id.NodeId.{NodeId}
use Rattle.fsfs_noderev.specs.declared.node_rev.NodeRev.{NodeRev}
use Rattle.fsfs_noderev.specs.declared.changes.item.ChangeItem.{ChangeItem}
use Rattle.fsfs_revision.specs.Shows.ByTree.{LacksAt}
use Rattle.fsfs_draft.specs.Own.{OwnNode, Own}
use Rattle.fsfs_draft.specs.Drafts.{Kept, Folder, ShowTrees}
use Rattle.fsfs_draft.specs.Steps.{Files, kept_at}
use Rattle.fsfs_draft.specs.Edits.{IsDraftAfter}
use Rattle.fsfs_draft.specs.Errors.{IfStays}
use Rattle.fsfs_edit.specs.Items.{IsDeleteOf}
use Rattle.fsfs_draft.specs.Walks.{IsAt, IsLastingAt, HasKind}
use Rattle.fsfs_edit.specs.Ways.{IsNoDirectory}
use Rattle.fsfs_edit.specs.Meeting.{IsDone}
use Rattle.fsfs_draft.specs.declared.error.EditError.{EditError}
use Rattle.fsfs_edit.specs.declared.delete.Gone.{Gone}
use Rattle.fsfs_edit.specs.declared.delete.Gone.TheVariants as gones
use Rattle.fsfs_draft.specs.declared.walk.Child.{Child}
use Rattle.fsfs_draft.specs.declared.walk.Step.{Step}
use Rattle.fsfs_draft.specs.declared.walk.Step.TheVariants as steps

-- the predecessor's id, or the node-revision's own
abbrev pub before_or : NodeId → Option NodeId → NodeId
before_or id None = id
before_or id (Some before) = before

abbrev pub before_kept : NodeId → Option Kept → NodeId
before_kept id None = id
before_kept id (Some k) = before_or id k.node.predecessor

-- what an item of a delete names, by the folder's files
abbrev pub IsDeletedId : Files → Step → NodeId → Type 0
IsDeletedId files (steps.Own id) deleted = deleted ≡ before_kept id (kept_at files id)
IsDeletedId files (steps.Lasting found) deleted = deleted ≡ found.node.id

-- and by what stands there: an own node-revision's predecessor, or itself where it has none; or what stands in a revision
pub data IsGoneId (look : RevisionBytes) (trees : ℕ → TreeFunction) (base : ℕ) (own : Own) (path : Path) (id : NodeId) : Type 0 where
  OfOwn : (v : OwnNode) → own path ≡ Some v → id ≡ before_or v.node.id v.node.predecessor → IsGoneId look trees base own path id
  OfLasting : (u : NodeRev) → IsLastingAt look trees base own path u → id ≡ u.id → IsGoneId look trees base own path id

-- the last item says that what stood at the path was taken away
pub record TakesItem (look : RevisionBytes) (trees : ℕ → TreeFunction) (base : ℕ) (own : Own) (tree : TreeFunction) (path : Path) (f : Folder) : Type 0 where
  pub front : List ChangeItem
  pub item : ChangeItem
  pub items : f.items ≡ front ++ item ∷ []
  pub is : IsDeleteOf item item.id (kind_of_node (tree path)) path
  pub gone : IsGoneId look trees base own path item.id

abbrev pub IsGoneFrom : RevisionBytes → (ℕ → TreeFunction) → ℕ → ℕ → TxnName → Own → TreeFunction → List Mark → Path → Folder → Type 0
IsGoneFrom look trees top base txn own tree marks path after = IsDone look trees top base txn tree marks (Delete path) after × TakesItem look trees base own tree path after

-- each refusal has its cause in the tree, in this order: the way to the directory, and then what stands there
abbrev pub IsDeleting : RevisionBytes → (ℕ → TreeFunction) → ℕ → ℕ → TxnName → Own → TreeFunction → List Mark → Path → PathName → Folder → Folder → Result Gone EditError → Type 0
IsDeleting look trees top base txn own tree marks p name before after (Ok gones.Done) = IsGoneFrom look trees top base txn own tree marks (p ++ name ∷ []) after
IsDeleting look trees top base txn own tree marks p name before after (Ok (gones.NotFound depth)) = LacksAt tree p depth × (after ≡ before)
IsDeleting look trees top base txn own tree marks p name before after (Ok (gones.NotDir depth)) = IsNoDirectory tree p depth × (after ≡ before)
IsDeleting look trees top base txn own tree marks p name before after (Ok gones.Absent) = HasKind (tree p) Dir × (tree (p ++ name ∷ []) ≡ None) × (after ≡ before)
IsDeleting look trees top base txn own tree marks p name before after (Err e) = IfStays e (after ≡ before)

-- over any draft it is the flat model's edit, or its refusal
abbrev pub MeetsDelete : Told → TxnName → Folder → Folder → Path → PathName → Result Gone EditError → Type 0
MeetsDelete told txn before after p name result = (look : RevisionBytes) (trees : ℕ → TreeFunction) (top base : ℕ) (tree : TreeFunction) (marks : List Mark) → Knows told top look → ShowTrees look top trees → base ≤ top → IsTree tree
    → (d : IsDraftAfter look trees top base txn before tree marks) → IsDeleting look trees top base txn d.0.shows.own tree marks p name before after result

-- where something stands there
abbrev pub LeavesDeleted : RevisionBytes → (ℕ → TreeFunction) → ℕ → ℕ → TxnName → Own → TreeFunction → List Mark → Path → Folder → Folder → Result (Unit {0}) EditError → Type 0
LeavesDeleted look trees top base txn own tree marks path before after (Ok u) = IsGoneFrom look trees top base txn own tree marks path after
LeavesDeleted look trees top base txn own tree marks path before after (Err e) = IfStays e (after ≡ before)

abbrev pub DeletesIn : Told → TxnName → Folder → Folder → Folder → Path → PathName → Child → Result (Unit {0}) EditError → Type 0
DeletesIn told txn folder before after p name child result = (look : RevisionBytes) (trees : ℕ → TreeFunction) (top base : ℕ) (tree : TreeFunction) (marks : List Mark) → Knows told top look → ShowTrees look top trees → base ≤ top → IsTree tree
    → (d : IsDraftAfter look trees top base txn folder tree marks) → HasKind (tree p) Dir → HasKind (tree (p ++ name ∷ [])) child.kind → IsAt look trees base d.0.shows.own (p ++ name ∷ []) child.step
    → LeavesDeleted look trees top base txn d.0.shows.own tree marks (p ++ name ∷ []) before after result
