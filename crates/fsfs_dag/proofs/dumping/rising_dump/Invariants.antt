use Rattle.std.proofs.Common.{take}
use Rattle.fsfs_dag.specs.Views.{entry_values}
use Rattle.fsfs_dag.proofs.RisingDumps.{IsSoFar}
use Rattle.fsfs_dag.proofs.dumping.rising_dump.Given as goal

-- the entries so far were put
abbrev pub invariant-loop-entry : goal.invariant-loop-entry
invariant-loop-entry l = IsSoFar (entry_values (take l.entry-index l.entries)) l.last l.out.items
