use Rattle.std.proofs.Common.{◌≡◌, ◌++◌, List, length}
use Rattle.fsfs_base.specs.Paths.{PathName}
use Rattle.fsfs_dag.specs.declared.directory.DirEntry.{DirEntry}
use Rattle.fsfs_dag.specs.Views.{entry_values}
use Rattle.fsfs_final.specs.Order.Children.{own_named, ids_in}
use Rattle.fsfs_final.proofs.order.children.own_ids.Given as goal

-- the last entries were put
abbrev pub invariant-loop-left : goal.invariant-loop-left
invariant-loop-left l = (done : List DirEntry) × (l.entries ≡ l.left ++ done) × ((name : PathName) → ids_in l.ids name ≡ own_named (entry_values done) name)

abbrev pub decreases-loop-left : goal.decreases-loop-left
decreases-loop-left l = length l.left
