use Rattle.std.proofs.Common.{◌≡◌, ◌++◌, take}
use Rattle.fsfs_dag.specs.Views.{entry_values}
use Rattle.fsfs_dag.proofs.listing.leaf.push_copies.Given as goal

-- the entries so far
abbrev pub invariant-loop-entry : goal.invariant-loop-entry
invariant-loop-entry l = entry_values l.all.items ≡ entry_values l.fn.all.items ++ entry_values (take l.entry-index l.entries)
