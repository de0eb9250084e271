-- Failures where a text or a property is put at what was opened.
use Rattle.std.specs.Prelude.{◌≤◌, ℕ, Result, Ok, Err}
use Rattle.fsfs_base.specs.Counts as counts
use Rattle.fsfs_base.specs.Counts.{Rose}
use Rattle.fsfs_draft.specs.declared.error.EditError.{EditError}
use Rattle.fsfs_draft.specs.declared.error.EditError.TheVariants as errors
use Rattle.fsfs_txn.specs.declared.opened.texts.TextPut.{TextPut}
use Rattle.fsfs_txn.specs.declared.opened.texts.TextPut.TheVariants as puts

-- no book is read, so no disk fails and nothing read is wrong. A fact, but where the bench failed
abbrev pub IfLeft : EditError → Type 0 → Type 0
IfLeft errors.BenchFault P = Unit {0}
IfLeft errors.OutOfMemory P = P
IfLeft errors.DiskFault P = ⊥
IfLeft (errors.Wrong w) P = ⊥
IfLeft errors.Lacking P = P

-- a fact of what is left, whatever was answered, but where the bench failed
abbrev pub OnLeft : {T : Type 0} → Result T EditError → Type 0 → Type 0
OnLeft (Ok x) P = P
OnLeft (Err e) P = IfLeft e P

-- a fact, where the bench failed
abbrev pub IfBench : EditError → Type 0 → Type 0
IfBench errors.BenchFault P = P
IfBench errors.OutOfMemory P = Unit {0}
IfBench errors.DiskFault P = Unit {0}
IfBench (errors.Wrong w) P = Unit {0}
IfBench errors.Lacking P = Unit {0}

-- a bench's count never falls, and rose where the bench failed
abbrev pub HasBenchRise : {T : Type 0} → ℕ → ℕ → Result T EditError → Type 0
HasBenchRise before now result = counts.HasCause IfBench before now result

-- a fact, where the source failed
abbrev pub IfSource : Result TextPut EditError → Type 0 → Type 0
IfSource (Ok puts.SourceFault) P = P
IfSource (Ok puts.Done) P = Unit {0}
IfSource (Ok puts.NotFile) P = Unit {0}
IfSource (Ok puts.TooLong) P = Unit {0}
IfSource (Ok (puts.Checksum kept found)) P = Unit {0}
IfSource (Err e) P = Unit {0}

-- a source's count never falls, and rose where the source failed
pub record HasSourceRise (before now : ℕ) (result : Result TextPut EditError) : Type 0 where
  pub later : before ≤ now
  pub failed : IfSource result (Rose before now)
