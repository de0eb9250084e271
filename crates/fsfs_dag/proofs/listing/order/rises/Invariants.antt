use Rattle.std.proofs.Common.{take}
use Rattle.fsfs_layout.proofs.Rising.{Rise}
use Rattle.fsfs_dag.specs.Listing.Lists.{name_keys}
use Rattle.fsfs_dag.specs.Views.{entry_values}
use Rattle.fsfs_dag.proofs.listing.order.rises.Given as goal

-- the names so far rise up to the last
abbrev pub invariant-loop-entry : goal.invariant-loop-entry
invariant-loop-entry l = Rise l.last (name_keys (entry_values (take l.entry-index l.entries)))
