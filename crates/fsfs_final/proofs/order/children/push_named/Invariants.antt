use Rattle.std.specs.BTreeMap.{btree_map_len}
use Rattle.fsfs_final.specs.Order.Orders.{last_first}
use Rattle.fsfs_final.specs.Order.Children.{ids_in}
use Rattle.fsfs_final.proofs.Pushing.{ArePushing}
use Rattle.fsfs_final.proofs.order.children.push_named.Given as goal

abbrev pub invariant-loop-name : goal.invariant-loop-name
invariant-loop-name g l = ArePushing (g.N.Own.folder l.own).nodes (ids_in l.fn.ids) (ids_in l.left) (last_first l.fn.next.items) (last_first l.next.items)

abbrev pub decreases-loop-name : goal.decreases-loop-name
decreases-loop-name g l = btree_map_len l.left
