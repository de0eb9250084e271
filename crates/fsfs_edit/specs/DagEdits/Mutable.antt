-- What the calls that make a node the transaction's own leave.
use Rattle.std.specs.Prelude.{◌≡◌, ◌⊎◌, ◌+◌, ◌++◌, ℕ, true, List, [], ◌∷◌, Some, None, is_some, Result, Ok, Err}
use Rattle.fsfs_base.specs.Paths.{PathName, Path}
use Rattle.fsfs_tree.specs.Nodes.{TreeFunction}
use Rattle.fsfs_model.specs.Flat.Edits.{is_dir_node}
use Rattle.fsfs_revision.specs.Told.{RevisionBytes}
use Rattle.fsfs_base.specs.declared.kind.Kind.{Kind}
use Rattle.fsfs_base.specs.declared.fields.txn_name.TxnName.{TxnName}
use Rattle.fsfs_noderev.specs.Ids.{New, part_value}
use Rattle.fsfs_noderev.specs.declared.node_id.Part.{Part}
use Rattle.fsfs_noderev.specs.declared.node_id.NodeId.{NodeId}
use Rattle.fsfs_noderev.specs.declared.node_rev.NodeRev.{NodeRev}
use Rattle.fsfs_revision.specs.Shows.Reading.{DirEntry}
use Rattle.fsfs_draft.specs.Own.{OwnNode, Own, draft_tree}
use Rattle.fsfs_draft.specs.Drafts.{Kept, Folder, IsDraft}
use Rattle.fsfs_draft.specs.Edits.{IsOpenedTo}
use Rattle.fsfs_model.specs.declared.flat.mark.Mark.{Mark}
use Rattle.fsfs_draft.specs.declared.error.EditError.{EditError}
use Rattle.fsfs_draft.specs.Errors.{IsFailure}
use Rattle.fsfs_draft.specs.Steps.{with_kept, kept_at, IsSuccessor}
use Rattle.fsfs_draft.specs.Views.{new_kept, opened_kept}
use Rattle.fsfs_dag.specs.Entries.{HasPut}

abbrev pub drawn : Folder → Folder
drawn f = record f { next_copy = f.next_copy + 1 }

-- the part is the directory's or that of what it goes on from; or it was drawn
pub data IsPartOf (before after : Folder) (dir old part : Part) : Type 0 where
  Directory : part ≡ dir → after ≡ before → IsPartOf before after dir old part
  Same : part ≡ old → after ≡ before → IsPartOf before after dir old part
  Drawn : part_value part ≡ New before.next_copy → after ≡ drawn before → IsPartOf before after dir old part

-- and no file is of this node part and it
pub record IsPartFrom (before after : Folder) (dir : Part) (old : NodeId) (part : Part) : Type 0 where
  pub of : IsPartOf before after dir old.copy part
  pub free : after.nodes (part_value old.node) (part_value part) ≡ None

-- the folder has no such directory, or a file of a number that was not drawn: neither comes in a draft
abbrev pub IsAmiss : Folder → NodeId → NodeId → Type 0
IsAmiss f dir old = (kept_at f.nodes dir ≡ None) ⊎ (is_some (f.nodes (part_value old.node) (New f.next_copy)) ≡ true)

-- a node-revision that goes on from u was put, and the entry of the name is its
pub record IsChildChanged (before after : Folder) (txn : TxnName) (dir : NodeId) (entries : List DirEntry) (name : PathName) (kind : Kind) (u : NodeRev) (id : NodeId) : Type 0 where
  pub k : Kept
  pub here : kept_at before.nodes dir ≡ Some k
  pub child : NodeRev
  pub id_is : child.id ≡ id
  pub next : IsSuccessor txn k.node u child name
  pub between : Folder
  pub part : IsPartFrom before between dir.copy u.id child.id.copy
  pub new : List DirEntry
  pub replaced : HasPut entries name kind child.id new
  pub after_is : after ≡ record between { nodes = with_kept dir (opened_kept k new) (with_kept child.id (new_kept child) between.nodes) }

-- ---- what is left in the draft

-- in the course of any edit, the directories down to the path are opened
abbrev pub OpensTo : RevisionBytes → (ℕ → TreeFunction) → ℕ → ℕ → TxnName → Folder → Own → Path → Folder → Own → Path → Type 0
OpensTo look trees top base txn before own from after now path = (tree : TreeFunction) (marks : List Mark) (first : Own) → IsOpenedTo look trees top base txn marks tree first from before own → IsOpenedTo look trees top base txn marks tree first path after now

-- what stands behind the name is the transaction's own, and the tree is as before
abbrev pub LeavesMutable : RevisionBytes → (ℕ → TreeFunction) → ℕ → ℕ → TxnName → Folder → Own → Path → PathName → Folder → Result NodeId EditError → Type 0
LeavesMutable look trees top base txn before own p name after (Ok id) =
    (now : Own) × IsDraft look top base txn after now × ((q : Path) → draft_tree trees now (trees base) q ≡ draft_tree trees own (trees base) q) × (v : OwnNode) × (now (p ++ name ∷ []) ≡ Some v) × (v.node.id ≡ id)
    × OpensTo look trees top base txn before own p after now (p ++ name ∷ [])
LeavesMutable look trees top base txn before own p name after (Err e) = IsFailure e

-- the path leads down the tree: what stands above is a directory, and each name leads to something
abbrev pub LeadsTo : TreeFunction → Path → Type 0
LeadsTo tree path = (front : Path) (x : PathName) (rest : Path) → front ++ x ∷ rest ≡ path → (is_dir_node (tree front) ≡ true) × (is_some (tree (front ++ x ∷ [])) ≡ true)

-- own node-revisions that show the same tree
abbrev pub IsSameDraft : RevisionBytes → (ℕ → TreeFunction) → ℕ → ℕ → TxnName → Own → Folder → Own → Type 0
IsSameDraft look trees top base txn own after now = IsDraft look top base txn after now × ((q : Path) → draft_tree trees now (trees base) q ≡ draft_tree trees own (trees base) q)

-- the same, and what stands at the path is one of them
abbrev pub LeavesAbove : RevisionBytes → (ℕ → TreeFunction) → ℕ → ℕ → TxnName → Folder → Own → Path → Folder → Result NodeId EditError → Type 0
LeavesAbove look trees top base txn before own path after (Ok id) =
    (now : Own) × IsSameDraft look trees top base txn own after now × (v : OwnNode) × (now path ≡ Some v) × (v.node.id ≡ id) × OpensTo look trees top base txn before own [] after now path
LeavesAbove look trees top base txn before own path after (Err e) = IsFailure e
