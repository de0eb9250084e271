-- Counts of faults, where a reading fails.
use Rattle.std.specs.Prelude.{ℕ, Result, IfErr}
use Rattle.fsfs_base.specs.Counts as counts
use Rattle.fsfs_revision.specs.declared.wrong.ReadError.{ReadError}
use Rattle.fsfs_revision.specs.declared.wrong.ReadError.TheVariants as errors

-- a fact, where the disk failed
abbrev pub IfDisk : ReadError → Type 0 → Type 0
IfDisk errors.DiskFault P = P
IfDisk errors.OutOfMemory P = Unit {0}
IfDisk (errors.Wrong w) P = Unit {0}

-- a book's count of faults never falls, and rose where the disk failed
abbrev pub HasCause : {T : Type 0} → ℕ → ℕ → Result T ReadError → Type 0
HasCause before now result = counts.HasCause IfDisk before now result

-- no failure of a disk
abbrev pub IsQuiet : {T : Type 0} → Result T ReadError → Type 0
IsQuiet result = IfErr result (λ e. IfDisk e ⊥)
