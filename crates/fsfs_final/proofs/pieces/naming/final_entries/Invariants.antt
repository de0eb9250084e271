use Rattle.std.proofs.Common.{◌≡◌, map, take}
use Rattle.fsfs_dag.specs.Views.{entry_values}
use Rattle.fsfs_final.specs.Pieces.Naming.{ids_of, final_entry}
use Rattle.fsfs_final.proofs.pieces.naming.final_entries.Given as goal

-- the entries so far
abbrev pub invariant-loop-entry : goal.invariant-loop-entry
invariant-loop-entry l = entry_values l.all.items ≡ map (final_entry (ids_of l.ids) l.dir) (entry_values (take l.entry-index l.entries))
