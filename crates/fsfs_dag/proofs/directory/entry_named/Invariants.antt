use Rattle.std.proofs.Common.{◌≡◌, drop}
use Rattle.fsfs_revision.specs.Shows.Reading.{named}
use Rattle.fsfs_dag.specs.Views.{entry_values}
use Rattle.fsfs_dag.proofs.directory.entry_named.Given as goal

-- no entry before this one has the name
abbrev pub invariant-loop-entry : goal.invariant-loop-entry
invariant-loop-entry l = named l.name (entry_values l.entries) ≡ named l.name (entry_values (drop l.entry-index l.entries))
