-- What the calls that put a new node leave.
use Rattle.std.specs.Prelude.{◌≡◌, ◌⊎◌, ◌+◌, ◌++◌, ℕ, true, List, [], ◌∷◌, Some, None, is_some, Result, Ok, Err}
use Rattle.fsfs_base.specs.Paths.{PathName, Path}
use Rattle.fsfs_tree.specs.Nodes.{TreeFunction, empty_node}
use Rattle.fsfs_model.specs.Flat.Edits.{with_node}
use Rattle.fsfs_base.specs.declared.kind.Kind.{Kind}
use Rattle.fsfs_base.specs.declared.fields.txn_name.TxnName.{TxnName}
use Rattle.fsfs_revision.specs.Told.{RevisionBytes}
use Rattle.fsfs_noderev.specs.Ids.{New, part_value}
use Rattle.fsfs_noderev.specs.declared.node_id.Part.{Part}
use Rattle.fsfs_noderev.specs.declared.node_id.Place.TheVariants as places
use Rattle.fsfs_noderev.specs.declared.node_id.NodeId.{NodeId}
use Rattle.fsfs_noderev.specs.declared.node_rev.NodeRev.{NodeRev}
use Rattle.fsfs_revision.specs.Shows.Reading.{DirEntry}
use Rattle.fsfs_draft.specs.Own.{Own}
use Rattle.fsfs_draft.specs.Rules.{draft_root}
use Rattle.fsfs_draft.specs.Drafts.{Kept, Folder, IsItemOf}
use Rattle.fsfs_draft.specs.Steps.{with_kept, kept_at}
use Rattle.fsfs_draft.specs.Views.{new_kept, opened_kept}
use Rattle.fsfs_model.specs.declared.flat.mark.Mark.{Mark}
use Rattle.fsfs_model.specs.declared.flat.mark.What.TheVariants as whats
use Rattle.fsfs_noderev.specs.declared.changes.item.ChangeItem.{ChangeItem}
use Rattle.fsfs_draft.specs.Edits.{IsEdited, IsOpenedTo, IsDraftAfter}
use Rattle.fsfs_draft.specs.Errors.{IsFailure}
use Rattle.fsfs_draft.specs.Items.{with_item, IsFileAt}
use Rattle.fsfs_draft.specs.declared.error.EditError.{EditError}
use Rattle.fsfs_dag.specs.Entries.{HasPut}

abbrev pub drawn_node : Folder → Folder
drawn_node f = record f { next_node = f.next_node + 1 }

-- a new node-revision under the name of the directory, with this node part
pub record IsNewNode (txn : TxnName) (dir w : NodeRev) (kind : Kind) (name : PathName) : Type 0 where
  pub copy : w.id.copy ≡ dir.id.copy
  pub place : w.id.place ≡ places.In txn
  pub kind_is : w.kind ≡ kind
  pub predecessor : w.predecessor ≡ None
  pub count : w.count ≡ 0
  pub text : w.text ≡ None
  pub props : w.props ≡ None
  pub path : w.created_path ≡ dir.created_path ++ name ∷ []
  pub no_copy : w.copy_from ≡ None
  pub root : draft_root w ≡ draft_root dir

-- the folder has no such directory, or a file of a number that was not drawn: neither comes in a draft
abbrev pub IsAmissNode : Folder → NodeId → Type 0
IsAmissNode f dir = (kept_at f.nodes dir ≡ None) ⊎ ((copy : Part) × (is_some (f.nodes (New f.next_node) (part_value copy)) ≡ true))

-- a new node-revision was put, and the entry of the name is its
pub record IsChildMade (before after : Folder) (txn : TxnName) (dir : NodeId) (entries : List DirEntry) (name : PathName) (kind : Kind) (id : NodeId) : Type 0 where
  pub k : Kept
  pub here : kept_at before.nodes dir ≡ Some k
  pub child : NodeRev
  pub id_is : child.id ≡ id
  pub made : IsNewNode txn k.node child kind name
  pub part : part_value child.id.node ≡ New before.next_node
  pub free : kept_at before.nodes child.id ≡ None
  pub new : List DirEntry
  pub replaced : HasPut entries name kind child.id new
  pub after_is : after ≡ record (drawn_node before) { nodes = with_kept dir (opened_kept k new) (with_kept child.id (new_kept child) before.nodes) }

-- in the course of any edit that came down to the directory: with the item of it the folder holds a draft, and the tree and the marks
-- are the flat edit's
abbrev pub Makes : RevisionBytes → (ℕ → TreeFunction) → ℕ → ℕ → TxnName → Folder → Own → Path → PathName → Kind → Folder → Type 0
Makes look trees top base txn before own p name kind after = (tree : TreeFunction) (marks : List Mark) (first : Own) (item : ChangeItem) (m : Mark) → IsEdited look trees top base txn marks first → IsOpenedTo look trees top base txn marks tree first p before own
    → m.path ≡ p ++ name ∷ [] → m.what ≡ whats.Make None → IsItemOf item m → IsDraftAfter look trees top base txn (with_item after item) (with_node tree (p ++ name ∷ []) (Some (empty_node kind))) (marks ++ m ∷ [])

abbrev pub LeavesNew : RevisionBytes → (ℕ → TreeFunction) → ℕ → ℕ → TxnName → Folder → Own → Path → PathName → Kind → Folder → Result NodeId EditError → Type 0
LeavesNew look trees top base txn before own p name kind after (Ok id) = Makes look trees top base txn before own p name kind after × IsFileAt after (p ++ name ∷ []) id
LeavesNew look trees top base txn before own p name kind after (Err e) = IsFailure e
