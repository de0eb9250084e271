-- What the failures of the layers below mean to an edit.
use Rattle.fsfs_revision.specs.declared.wrong.ReadError.{ReadError}
use Rattle.fsfs_revision.specs.declared.wrong.ReadError.TheVariants as reads
use Rattle.fsfs_draft.specs.declared.txn_noderevs.OwnError.{OwnError}
use Rattle.fsfs_draft.specs.declared.txn_noderevs.OwnError.TheVariants as owns
use Rattle.fsfs_draft.specs.declared.error.EditError.{EditError}
use Rattle.fsfs_draft.specs.declared.error.EditError.TheVariants as errors

abbrev pub of_own : OwnError → EditError
of_own owns.OutOfMemory = errors.OutOfMemory
of_own owns.BenchFault = errors.BenchFault

abbrev pub of_read : ReadError → EditError
of_read reads.OutOfMemory = errors.OutOfMemory
of_read reads.DiskFault = errors.DiskFault
of_read (reads.Wrong w) = errors.Wrong w

-- a fact, where memory ran out
abbrev pub IfMemory : OwnError → Type 0 → Type 0
IfMemory owns.OutOfMemory P = P
IfMemory owns.BenchFault P = Unit {0}

-- memory ran out; or the caller's condition was not met, and then this
abbrev pub IsWant : EditError → Type 0 → Type 0
IsWant errors.BenchFault P = ⊥
IsWant errors.OutOfMemory P = Unit {0}
IsWant errors.DiskFault P = ⊥
IsWant (errors.Wrong w) P = ⊥
IsWant errors.Lacking P = P

-- memory ran out, or a disk or a bench failed: no reading was wrong, and the caller's condition was met
abbrev pub IsFailure : EditError → Type 0
IsFailure errors.BenchFault = Unit {0}
IsFailure errors.OutOfMemory = Unit {0}
IsFailure errors.DiskFault = Unit {0}
IsFailure (errors.Wrong w) = ⊥
IsFailure errors.Lacking = ⊥

-- such a failure, and a fact, but where the bench failed
abbrev pub IfStays : EditError → Type 0 → Type 0
IfStays errors.BenchFault P = Unit {0}
IfStays errors.OutOfMemory P = P
IfStays errors.DiskFault P = P
IfStays (errors.Wrong w) P = ⊥
IfStays errors.Lacking P = ⊥
