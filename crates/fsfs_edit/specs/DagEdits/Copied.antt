-- What the calls that put a copy leave.
use Rattle.std.specs.Prelude.{◌≡◌, ◌+◌, ◌-◌, ◌^◌, ◌++◌, ℕ, min, List, [], ◌∷◌, Some, None, Result, Ok, Err}
use Rattle.fsfs_base.specs.Paths.{PathName, Path}
use Rattle.fsfs_tree.specs.Nodes.{TreeFunction}
use Rattle.fsfs_model.specs.Flat.Edits.{with_copy}
use Rattle.fsfs_base.specs.declared.fields.txn_name.TxnName.{TxnName}
use Rattle.fsfs_revision.specs.Told.{RevisionBytes}
use Rattle.fsfs_noderev.specs.Ids.{New, part_value}
use Rattle.fsfs_noderev.specs.declared.node_id.Place.TheVariants as places
use Rattle.fsfs_noderev.specs.declared.node_id.NodeId.{NodeId}
use Rattle.fsfs_noderev.specs.declared.node_rev.CopySource.{CopySource}
use Rattle.fsfs_noderev.specs.declared.node_rev.NodeRev.{NodeRev}
use Rattle.fsfs_revision.specs.Shows.Reading.{DirEntry}
use Rattle.fsfs_draft.specs.Own.{Own}
use Rattle.fsfs_draft.specs.Rules.{draft_root}
use Rattle.fsfs_draft.specs.Drafts.{Kept, Folder, IsItemOf}
use Rattle.fsfs_draft.specs.Steps.{with_kept, kept_at}
use Rattle.fsfs_draft.specs.Views.{new_kept, opened_kept}
use Rattle.fsfs_edit.specs.DagEdits.Mutable.{drawn}
use Rattle.fsfs_model.specs.declared.flat.mark.Mark.{Mark}
use Rattle.fsfs_model.specs.declared.flat.mark.What.TheVariants as whats
use Rattle.fsfs_noderev.specs.declared.changes.item.ChangeItem.{ChangeItem}
use Rattle.fsfs_draft.specs.Edits.{IsEdited, IsOpenedTo, IsDraftAfter}
use Rattle.fsfs_draft.specs.Errors.{IsFailure}
use Rattle.fsfs_draft.specs.Items.{with_item, IsFileAt}
use Rattle.fsfs_draft.specs.declared.error.EditError.{EditError}
use Rattle.fsfs_dag.specs.Entries.{HasPut}

-- a copy of u, from there, under the name of the directory
pub record IsCopyNode (txn : TxnName) (dir u w : NodeRev) (from : CopySource) (name : PathName) : Type 0 where
  pub node : w.id.node ≡ u.id.node
  pub place : w.id.place ≡ places.In txn
  pub kind : w.kind ≡ u.kind
  pub predecessor : w.predecessor ≡ Some u.id
  pub count : w.count ≡ min (u.count + 1) (2 ^ 64 - 1)
  pub text : w.text ≡ u.text
  pub props : w.props ≡ u.props
  pub path : w.created_path ≡ dir.created_path ++ name ∷ []
  pub copy_from : w.copy_from ≡ Some from
  pub root : draft_root w ≡ (None, w.created_path)

-- a copy was put, and the entry of the name is its
pub record IsCopyPut (before after : Folder) (txn : TxnName) (dir : NodeId) (entries : List DirEntry) (name : PathName) (u : NodeRev) (from : CopySource) (id : NodeId) : Type 0 where
  pub k : Kept
  pub here : kept_at before.nodes dir ≡ Some k
  pub child : NodeRev
  pub id_is : child.id ≡ id
  pub copy : IsCopyNode txn k.node u child from name
  pub part : part_value child.id.copy ≡ New before.next_copy
  pub free : kept_at before.nodes child.id ≡ None
  pub new : List DirEntry
  pub replaced : HasPut entries name u.kind child.id new
  pub after_is : after ≡ record (drawn before) { nodes = with_kept dir (opened_kept k new) (with_kept child.id (new_kept child) before.nodes) }

-- in the course of any edit that came down to the directory: with the item of it the folder holds a draft, and the tree and the marks
-- are the flat edit's
abbrev pub Copies : RevisionBytes → (ℕ → TreeFunction) → ℕ → ℕ → TxnName → Folder → Own → Path → PathName → CopySource → Folder → Type 0
Copies look trees top base txn before own p name from after = (tree : TreeFunction) (marks : List Mark) (first : Own) (item : ChangeItem) (m : Mark) → IsEdited look trees top base txn marks first → IsOpenedTo look trees top base txn marks tree first p before own
    → m.path ≡ p ++ name ∷ [] → m.what ≡ whats.Make (Some (from.rev, from.path)) → IsItemOf item m → IsDraftAfter look trees top base txn (with_item after item) (with_copy tree from.rev (trees from.rev) from.path (p ++ name ∷ [])) (marks ++ m ∷ [])

abbrev pub LeavesCopy : RevisionBytes → (ℕ → TreeFunction) → ℕ → ℕ → TxnName → Folder → Own → Path → PathName → CopySource → Folder → Result NodeId EditError → Type 0
LeavesCopy look trees top base txn before own p name from after (Ok id) = Copies look trees top base txn before own p name from after × IsFileAt after (p ++ name ∷ []) id
LeavesCopy look trees top base txn before own p name from after (Err e) = IsFailure e
