-- What stands on the way down a path is the transaction's own, as far as it is known.
use Rattle.std.specs.Prelude.{ℕ, Result, Ok, Err}
use Rattle.fsfs_base.specs.Paths.{PathName, Path}
use Rattle.fsfs_tree.specs.Nodes.{TreeFunction}
use Rattle.fsfs_base.specs.declared.fields.txn_name.TxnName.{TxnName}
use Rattle.fsfs_revision.specs.Told.{RevisionBytes}
use Rattle.fsfs_noderev.specs.declared.node_id.NodeId.{NodeId}
use Rattle.fsfs_draft.specs.Own.{Own}
use Rattle.fsfs_draft.specs.Drafts.{Folder}
use Rattle.fsfs_draft.specs.Errors.{IsWant}
use Rattle.fsfs_draft.specs.declared.error.EditError.{EditError}
use Rattle.fsfs_edit.specs.DagEdits.Mutable.{LeavesMutable, LeavesAbove}

abbrev pub ReachesChild : RevisionBytes → (ℕ → TreeFunction) → ℕ → ℕ → TxnName → Folder → Own → Path → PathName → Folder → Result NodeId EditError → Type 0
ReachesChild look trees top base txn before own p name after (Ok id) = LeavesMutable look trees top base txn before own p name after (Ok id)
ReachesChild look trees top base txn before own p name after (Err e) = IsWant e (Unit {0})

-- the tree is as before, and what stands at the path is the transaction's own; or memory ran out, or something is not known
abbrev pub Reaches : RevisionBytes → (ℕ → TreeFunction) → ℕ → ℕ → TxnName → Folder → Own → Path → Folder → Result NodeId EditError → Type 0
Reaches look trees top base txn before own path after (Ok id) = LeavesAbove look trees top base txn before own path after (Ok id)
Reaches look trees top base txn before own path after (Err e) = IsWant e (Unit {0})
