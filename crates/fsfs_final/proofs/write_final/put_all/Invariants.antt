use Rattle.std.proofs.Common.{ℕ, List, length}
use Rattle.fsfs_noderev.specs.declared.limits.limit.PathLimit.{PathLimit}
use Rattle.fsfs_final.specs.Pieces.Naming.{FinalIds, ids_of}
use Rattle.fsfs_final.specs.Order.Orders.{last_first}
use Rattle.fsfs_final.specs.Putting.{ArePut, IsOnePast, no_ids}
use Rattle.fsfs_final.proofs.write_final.put_all.Given as goal

-- what is left, put behind what was put, is all
abbrev pub invariant-loop-kept : goal.invariant-loop-kept
invariant-loop-kept l = record {
  past : (limit : PathLimit) → IsOnePast limit (last_first l.left.items) → IsOnePast limit (last_first l.fn.order.items);
  put : (new : List ℕ) (now : FinalIds) → ArePut l.rev l.start (last_first l.left.items) l.out.items (ids_of l.ids) new now → ArePut l.rev l.start (last_first l.fn.order.items) l.fn.out.items no_ids new now;
}

abbrev pub decreases-loop-kept : goal.decreases-loop-kept
decreases-loop-kept l = length l.left.items
