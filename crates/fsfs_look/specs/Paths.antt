-- What a look finds at a path.
use Rattle.std.specs.Prelude.{ℕ, Result, Ok, Err}
use Rattle.fsfs_base.specs.Paths.{Path}
use Rattle.fsfs_revision.specs.Told.{RevisionBytes}
use Rattle.fsfs_dag.specs.declared.node.PlacedNode.{PlacedNode}
use Rattle.fsfs_revision.specs.Shows.Reading.{Stands, Lacking, Blocked, MetAt}
use Rattle.fsfs_look.specs.declared.look_error.LookError.{LookError}
use Rattle.fsfs_look.specs.declared.look_error.LookError.TheVariants as errors
use Rattle.fsfs_stands.specs.declared.look_fault.LookFault.{LookFault}
use Rattle.fsfs_stands.specs.declared.look_fault.LookFault.TheVariants as faults

-- why there is no node at the path
abbrev pub IsNotFound : RevisionBytes → ℕ → Path → LookFault → Type 0
IsNotFound look rev path (faults.NotFound names) = MetAt look rev path (Ok (Lacking names))
IsNotFound look rev path (faults.NotDir names) = MetAt look rev path (Ok (Blocked names))
IsNotFound look rev path (faults.Wrong w) = MetAt look rev path (Err w)
IsNotFound look rev path faults.NotFile = ⊥

abbrev pub IsFound : RevisionBytes → ℕ → Path → Result PlacedNode LookError → Type 0
IsFound look rev path (Ok found) = MetAt look rev path (Ok (Stands found.node))
IsFound look rev path (Err (errors.Fault fault)) = IsNotFound look rev path fault
IsFound look rev path (Err errors.OutOfMemory) = Unit {0}
IsFound look rev path (Err errors.DiskFault) = Unit {0}
IsFound look rev path (Err errors.WriteFault) = ⊥
