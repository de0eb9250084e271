-- What a look gave to a sink, and the causes of its failures.
use Rattle.std.specs.Prelude.{ℕ, List, Option, Result, Ok, Err}
use Rattle.fsfs_base.specs.Counts.{HasCause}
use Rattle.fsfs_base.specs.Streams.{Adds}
use Rattle.fsfs_look.specs.declared.look_error.LookError.{LookError}
use Rattle.fsfs_look.specs.declared.look_error.LookError.TheVariants as errors
use Rattle.fsfs_base.specs.Output.{AddsFront}
use Rattle.fsfs_stands.specs.Texts.{End, Whole, Refused}

-- a first part of a text was written
abbrev pub WritesFront : (List ℕ → End → Type 0) → Option (List ℕ) → Option (List ℕ) → Type 0
WritesFront R old new = (text : List ℕ) × (end : End) × R text end × AddsFront old new text

-- the whole text was written; or all before what is refused; or, where the look failed, a first part
abbrev pub Writes : (List ℕ → End → Type 0) → Option (List ℕ) → Option (List ℕ) → Result (Unit {0}) LookError → Type 0
Writes R old new (Ok x) = (text : List ℕ) × R text Whole × Adds old new text
Writes R old new (Err (errors.Fault fault)) = (text : List ℕ) × R text (Refused fault) × Adds old new text
Writes R old new (Err errors.OutOfMemory) = WritesFront R old new
Writes R old new (Err errors.DiskFault) = WritesFront R old new
Writes R old new (Err errors.WriteFault) = WritesFront R old new

-- a fact, where the disk failed
abbrev pub IfDisk : LookError → Type 0 → Type 0
IfDisk errors.DiskFault P = P
IfDisk errors.OutOfMemory P = Unit {0}
IfDisk errors.WriteFault P = Unit {0}
IfDisk (errors.Fault fault) P = Unit {0}

-- a fact, where a write failed
abbrev pub IfWrite : LookError → Type 0 → Type 0
IfWrite errors.WriteFault P = P
IfWrite errors.OutOfMemory P = Unit {0}
IfWrite errors.DiskFault P = Unit {0}
IfWrite (errors.Fault fault) P = Unit {0}

-- a book's count of faults never falls, and rose where the disk failed
abbrev pub HasDiskCause : {T : Type 0} → ℕ → ℕ → Result T LookError → Type 0
HasDiskCause before now result = HasCause IfDisk before now result

-- a sink's count of faults never falls, and rose where a write failed
abbrev pub HasSinkCause : {T : Type 0} → ℕ → ℕ → Result T LookError → Type 0
HasSinkCause before now result = HasCause IfWrite before now result
