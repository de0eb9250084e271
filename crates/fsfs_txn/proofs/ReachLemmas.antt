-- What is known on the way down a path.
use Rattle.std.proofs.Common.{ℕ}
use Rattle.std.specs.Prelude.{Result, Ok, Err, IfErr}
use Rattle.fsfs_base.specs.Paths.{PathName, Path}
use Rattle.fsfs_tree.specs.Nodes.{TreeFunction}
use Rattle.fsfs_base.specs.declared.fields.txn_name.TxnName.{TxnName}
use Rattle.fsfs_revision.specs.Told.{RevisionBytes}
use Rattle.fsfs_noderev.specs.declared.node_id.NodeId.{NodeId}
use Rattle.fsfs_draft.specs.Own.{Own}
use Rattle.fsfs_draft.specs.Drafts.{Folder}
use Rattle.fsfs_draft.specs.Errors.{IsWant}
use Rattle.fsfs_draft.specs.declared.error.EditError.{EditError}
use Rattle.fsfs_draft.specs.declared.error.EditError.TheVariants as errors
use Rattle.fsfs_edit.specs.DagEdits.Mutable.{LeavesMutable}
use Rattle.fsfs_txn.specs.Opened.Reaching.{ReachesChild}

pub want_any : (e : EditError) (P : Type 0) → IsWant e P → IsWant e (Unit {0})
want_any errors.BenchFault P h = h
want_any errors.OutOfMemory P h = tt
want_any errors.DiskFault P h = h
want_any (errors.Wrong w) P h = h
want_any errors.Lacking P h = tt

pub child_reached : (look : RevisionBytes) (trees : ℕ → TreeFunction) (top base : ℕ) (txn : TxnName) (before : Folder) (own : Own) (p : Path) (name : PathName) (after : Folder) (result : Result NodeId EditError) (P : Type 0)
    → LeavesMutable look trees top base txn before own p name after result → IfErr result (λ e. IsWant e P) → ReachesChild look trees top base txn before own p name after result
child_reached look trees top base txn before own p name after (Ok id) P h w = h
child_reached look trees top base txn before own p name after (Err e) P h w = want_any e P w
