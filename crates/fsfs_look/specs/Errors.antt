-- What the errors of the readers below mean.
use Rattle.fsfs_revision.specs.declared.wrong.ReadError.{ReadError}
use Rattle.fsfs_revision.specs.declared.wrong.ReadError.TheVariants as reads
use Rattle.fsfs_stands.specs.declared.look_fault.LookFault.TheVariants.{Wrong}
use Rattle.fsfs_look.specs.declared.look_error.LookError.{LookError}
use Rattle.fsfs_look.specs.declared.look_error.LookError.TheVariants.{OutOfMemory, DiskFault, Fault}

abbrev pub of_read : ReadError → LookError
of_read reads.OutOfMemory = OutOfMemory
of_read reads.DiskFault = DiskFault
of_read (reads.Wrong w) = Fault (Wrong w)

-- bytes that are wrong, and no failure
abbrev pub IsWrong : LookError → Type 0
IsWrong (Fault (Wrong w)) = Unit {0}
IsWrong e = ⊥
