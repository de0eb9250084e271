use Rattle.std.proofs.Common.{◌≡◌}
use Rattle.fsfs_dag.proofs.listing.leaf.place_of.Given as goal

-- so many were looked at
abbrev pub invariant-loop-entry : goal.invariant-loop-entry
invariant-loop-entry l = l.at ≡ l.entry-index
