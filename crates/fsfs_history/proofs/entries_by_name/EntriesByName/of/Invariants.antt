use Rattle.std.proofs.Common.{◌≡◌, ◌++◌, ℕ, List, length}
use Rattle.fsfs_revision.specs.Shows.Reading.{named}
use Rattle.fsfs_dag.specs.Views.{entry_values}
use Rattle.fsfs_dag.specs.declared.directory.DirEntry.{DirEntry}
use Rattle.fsfs_history.specs.KeptDirs.{by_name}
use Rattle.fsfs_history.proofs.entries_by_name.EntriesByName.of.Given as goal

-- the last entries were put
abbrev pub invariant-loop-entry : goal.invariant-loop-entry
invariant-loop-entry l = (done : List DirEntry) × (l.fn.left.items ≡ l.left.items ++ done) × ((name : List ℕ) → by_name l.found name ≡ named name (entry_values done))

abbrev pub decreases-loop-entry : goal.decreases-loop-entry
decreases-loop-entry l = length l.left.items
