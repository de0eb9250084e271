use Rattle.std.proofs.Common.{◌≡◌, ◌++◌, List, length}
use Rattle.fsfs_base.specs.Paths.{PathName}
use Rattle.fsfs_revision.specs.Shows.Reading.{named}
use Rattle.fsfs_dag.specs.Views.{entry_values}
use Rattle.fsfs_dag.specs.declared.directory.DirEntry.{DirEntry}
use Rattle.fsfs_dag.specs.Listing.Views.{listed}
use Rattle.fsfs_dag.proofs.listing.entries.Listing.of_each.Given as goal

-- the last entries were put
abbrev pub invariant-loop-entry : goal.invariant-loop-entry
invariant-loop-entry l = (done : List DirEntry) × (l.fn.entries.items ≡ l.left.items ++ done) × ((y : PathName) → named y (listed l.listing) ≡ named y (entry_values done))

abbrev pub decreases-loop-entry : goal.decreases-loop-entry
decreases-loop-entry l = length l.left.items
