use Rattle.std.proofs.Common.{◌≤◌, ℕ}
use Rattle.fsfs_tree.specs.Nodes.{TreeFunction}
use Rattle.fsfs_revision.specs.Told.{RevisionBytes}
use Rattle.fsfs_draft.specs.Own.{Own as OwnNodes}
use Rattle.fsfs_draft.specs.Drafts.{IsDraft, ShowTrees}
use Rattle.fsfs_final.specs.Order.Orders.{last_first, AreHeld}
use Rattle.fsfs_final.proofs.Walking.{IsWalking}
use Rattle.fsfs_final.proofs.order.nodes.own_nodes.Given as goal

abbrev pub invariant-loop : goal.invariant-loop
invariant-loop g l = record {
  found : AreHeld (g.N.Own.folder l.own).nodes (last_first l.found.items);
  next : AreHeld (g.N.Own.folder l.own).nodes (last_first l.next.items);
  walking : (look : RevisionBytes) (trees : ℕ → TreeFunction) (top base : ℕ) (nodes : OwnNodes) → ShowTrees look top trees → base ≤ top → IsDraft look top base (g.N.Own.txn l.own) (g.N.Own.folder l.own) nodes
      → IsWalking nodes (last_first l.found.items) (last_first l.next.items);
}
