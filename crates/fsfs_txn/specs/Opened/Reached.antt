-- What was opened, as the transaction's own.
use Rattle.std.specs.Prelude.{◌≤◌, ℕ, List, [], Result, Ok, Err}
use Rattle.fsfs_base.specs.Paths.{Path}
use Rattle.fsfs_base.specs.declared.kind.Kind.{Kind}
use Rattle.fsfs_tree.specs.Nodes.{TreeFunction}
use Rattle.fsfs_tree.specs.Trees.{IsTree}
use Rattle.fsfs_model.specs.declared.flat.mark.Mark.{Mark}
use Rattle.fsfs_base.specs.declared.fields.txn_name.TxnName.{TxnName}
use Rattle.fsfs_revision.specs.Told.{RevisionBytes}
use Rattle.fsfs_noderev.specs.declared.node_id.NodeId.{NodeId}
use Rattle.fsfs_draft.specs.Own.{Own}
use Rattle.fsfs_draft.specs.Drafts.{Folder, ShowTrees}
use Rattle.fsfs_draft.specs.Edits.{IsDraftAfter}
use Rattle.fsfs_draft.specs.Errors.{IsWant}
use Rattle.fsfs_draft.specs.Walks.{HasKind}
use Rattle.fsfs_draft.specs.declared.error.EditError.{EditError}
use Rattle.fsfs_edit.specs.Ways.{IsOpenedAt}
use Rattle.fsfs_txn.specs.declared.opened.known.Known.{Known}
use Rattle.fsfs_txn.specs.declared.opened.opening.Way.{Way}
use Rattle.fsfs_txn.specs.Opened.Knowing.{AreKnown}
use Rattle.fsfs_txn.specs.Opened.Leading.{Leads}
use Rattle.fsfs_txn.specs.Opened.Stepping.{LeadsOn, LeadsAsBefore}

-- the tree has a node of this kind at the path, and it is the transaction's own
abbrev pub IsReached : RevisionBytes → (ℕ → TreeFunction) → ℕ → ℕ → TxnName → List Mark → TreeFunction → Own → Path → Folder → Result NodeId EditError → Type 0
IsReached look trees top base txn marks tree first p after (Ok id) = (kind : Kind) × HasKind (tree p) kind × IsOpenedAt look trees top base txn marks tree first p kind after id
IsReached look trees top base txn marks tree first p after (Err e) = IsWant e (Unit {0})

-- over any draft
abbrev pub ReachesTo : TxnName → Folder → Folder → List Known → Path → Result NodeId EditError → Type 0
ReachesTo txn before after known p result = (look : RevisionBytes) (trees : ℕ → TreeFunction) (top base : ℕ) (tree : TreeFunction) (marks : List Mark) → AreKnown look top known → ShowTrees look top trees → base ≤ top → IsTree tree
    → (d : IsDraftAfter look trees top base txn before tree marks) → IsReached look trees top base txn marks tree d.0.shows.own p after result

-- where the way leads to its path, what is reached is known, and nothing is lacking
abbrev pub ReachesKnown : TxnName → Folder → Folder → Way → Result NodeId EditError → Type 0
ReachesKnown txn before after way result = (look : RevisionBytes) (trees : ℕ → TreeFunction) (top base : ℕ) (tree : TreeFunction) (marks : List Mark) → AreKnown look top way.known.items → ShowTrees look top trees → base ≤ top → IsTree tree
    → IsDraftAfter look trees top base txn before tree marks → Leads look txn before way → LeadsOn look after.nodes way.known.items [] result

-- and whatever led somewhere leads there still
abbrev pub ReachesStill : TxnName → Folder → Folder → Way → Result NodeId EditError → Type 0
ReachesStill txn before after way result = (look : RevisionBytes) (trees : ℕ → TreeFunction) (top base : ℕ) (tree : TreeFunction) (marks : List Mark) → AreKnown look top way.known.items → ShowTrees look top trees → base ≤ top → IsTree tree
    → IsDraftAfter look trees top base txn before tree marks → LeadsAsBefore look before.nodes after.nodes result
