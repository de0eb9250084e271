use Rattle.std.proofs.Common.{◌≡◌, ◌++◌, List, length}
use Rattle.fsfs_dag.specs.declared.directory.DirEntry.{DirEntry}
use Rattle.fsfs_dag.specs.TreeWalks.{in_order, at_level}
use Rattle.fsfs_dag.specs.Views.{entry_values}
use Rattle.fsfs_dag.proofs.tree_walk.put_entries.Given as goal

-- the last entries were put
abbrev pub invariant-loop-entry : goal.invariant-loop-entry
invariant-loop-entry l = (done : List DirEntry) × (l.fn.below.items ≡ l.below.items ++ done) × (in_order l.todo.items ≡ at_level l.level (entry_values done) ++ in_order l.fn.todo.items)

abbrev pub decreases-loop-entry : goal.decreases-loop-entry
decreases-loop-entry l = length l.below.items
