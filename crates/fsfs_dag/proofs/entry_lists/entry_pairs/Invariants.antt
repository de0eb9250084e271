use Rattle.std.proofs.Common.{take}
use Rattle.fsfs_dag.specs.Entries.{LeadTo, HasFirsts}
use Rattle.fsfs_dag.specs.Views.{entry_values}
use Rattle.fsfs_dag.proofs.entry_lists.entry_pairs.Given as goal

-- the pairs of the entries so far
abbrev pub invariant-loop-entry : goal.invariant-loop-entry
invariant-loop-entry l = LeadTo (entry_values (take l.entry-index l.entries)) l.pairs × HasFirsts (entry_values (take l.entry-index l.entries)) l.pairs
