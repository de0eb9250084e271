-- Why no transaction was begun.
use Rattle.std.specs.Prelude.{◌≡◌, ◌⊎◌, ◌<◌, ℕ, List, ◌∷◌, length, false, Option, Some, Result, Ok, Err, IfSome}
use Rattle.fsfs_begin.specs.declared.making.BenchFault.{BenchFault as BenchCause}
use Rattle.fsfs_begin.specs.declared.making.BenchFault.TheVariants as bench
use Rattle.fsfs_begin.specs.declared.name_fault.NameFault.{NameFault}
use Rattle.fsfs_begin.specs.declared.name_fault.NameFault.TheVariants as names
use Rattle.fsfs_disk.specs.Labels.{Label, Txn, has_label}
use Rattle.fsfs_revision.specs.declared.wrong.ReadError.{ReadError}
use Rattle.fsfs_revision.specs.declared.wrong.ReadError.TheVariants as errors
use Rattle.fsfs_base.specs.declared.places.place.BeginPlace.TheVariants as begin
use Rattle.fsfs_base.specs.declared.places.place.DiskPlace.TheVariants as place
use Rattle.fsfs_revision.specs.Shows.Reading.{RootOf}
use Rattle.fsfs_turn.specs.Bytes.{bytes_of}
use Rattle.fsfs_turn.specs.Views.{View}
use Rattle.fsfs_begin.specs.Steps.{HasFault}
use Rattle.fsfs_begin.specs.declared.begin_fault.BeginFault.{BeginFault}
use Rattle.fsfs_begin.specs.declared.begin_fault.BeginFault.TheVariants.{NoRev, Stuck, Small, NamesFull, Wrong, DiskFault, BenchFault, Memory}

-- ---- the fault of each part

abbrev pub named_fault : NameFault → BeginFault
named_fault (names.Small fault) = Small fault
named_fault names.NamesFull = NamesFull
named_fault (names.DiskFault call) = DiskFault (place.Begin call)
named_fault names.Memory = Memory

abbrev pub read_fault : ReadError → BeginFault
read_fault errors.OutOfMemory = Memory
read_fault errors.DiskFault = DiskFault place.Read
read_fault (errors.Wrong wrong) = Wrong wrong

abbrev pub made_fault : BenchCause → BeginFault
made_fault bench.Disk = DiskFault place.MakeBench
made_fault bench.Bench = BenchFault

-- ---- its cause

-- a fact, where the disk failed
abbrev pub IfDisk : BeginFault → Type 0 → Type 0
IfDisk (DiskFault at) P = P
IfDisk fault P = Unit {0}

abbrev pub IfBenchDisk : BenchCause → Type 0 → Type 0
IfBenchDisk bench.Disk P = P
IfBenchDisk bench.Bench P = Unit {0}

-- whether a bench failed, as a count
abbrev pub bench_failures : BenchCause → ℕ
bench_failures bench.Disk = 0
bench_failures bench.Bench = 1

abbrev pub bench_failures_in : {X : Type 0} → Result X BenchCause → ℕ
bench_failures_in (Ok x) = 0
bench_failures_in (Err why) = bench_failures why

abbrev pub bench_faults : BeginFault → ℕ
bench_faults BenchFault = 1
bench_faults fault = 0

abbrev pub bench_faults_in : {X : Type 0} → Result X BeginFault → ℕ
bench_faults_in (Ok x) = 0
bench_faults_in (Err why) = bench_faults why

abbrev pub IfNameDisk : NameFault → Type 0 → Type 0
IfNameDisk (names.DiskFault at) P = P
IfNameDisk fault P = Unit {0}

-- nothing of a base
abbrev pub IsNoBase : BeginFault → Type 0
IsNoBase (NoRev asked youngest) = ⊥
IsNoBase (Wrong wrong) = ⊥
IsNoBase fault = Unit {0}

-- the bench did not fail
abbrev pub IsNoBench : BeginFault → Type 0
IsNoBench BenchFault = ⊥
IsNoBench fault = Unit {0}

-- a base above the youngest revision
abbrev pub IsAbove : ℕ → BeginFault → Type 0
IsAbove base (NoRev asked youngest) = (asked ≡ base) × (youngest < asked)
IsAbove base fault = Unit {0}

-- a fact, where the bench failed
abbrev pub IfBench : BeginFault → Type 0 → Type 0
IfBench BenchFault P = P
IfBench fault P = Unit {0}

-- No number was drawn: none comes behind the one that stands there, or that could not be read.
abbrev pub NoNumber : NameFault → Type 0
NoNumber (names.Small fault) = ⊥
NoNumber names.NamesFull = Unit {0}
NoNumber (names.DiskFault begin.Read) = Unit {0}
NoNumber (names.DiskFault begin.Put) = ⊥
NoNumber (names.DiskFault begin.Rename) = ⊥
NoNumber (names.DiskFault begin.Firm) = ⊥
NoNumber names.Memory = ⊥

abbrev pub LacksNumber : BeginFault → Type 0
LacksNumber NamesFull = Unit {0}
LacksNumber (DiskFault (place.Begin begin.Read)) = Unit {0}
LacksNumber fault = ⊥

-- the label isn't kept, where these are, or the disk failed to drop it
abbrev pub IsDropped : Label → Option (List Label) → Type 0 → Type 0
IsDropped l labels rose = IfSome labels (λ ls. (has_label l ls ≡ false) ⊎ rose)

-- the name that was drawn has no label
abbrev pub LeavesNone : ℕ → Option (List Label) → Type 0 → View → View → Type 0
LeavesNone base labels rose v u = (n : ℕ) × (u.given ≡ n ∷ v.given) × IsDropped (Txn base n) labels rose

-- In what the pass knows behind it. Where the pass knows anything `txn-current` is not damaged; and that the last number stands there it learns
-- by no step of the machine, but by what its turns tell of the files (`MeetsLastName`). That a read failed is not among the faults that it knows, since reading told it nothing.
abbrev pub Cause : ℕ → BeginFault → View → Type 0
Cause base (NoRev asked youngest) u = (asked ≡ base) × (youngest < asked) × (u.pass.least ≡ youngest)
Cause base (Stuck at) u = u.pass.stuck ≡ Some at
Cause base (Small fault) u = ⊥
Cause base NamesFull u = ⊥
Cause base (Wrong wrong) u = (base < length u.seen) × RootOf (bytes_of u.seen) base (Err wrong)
Cause base (DiskFault place.Read) u = Unit {0}
Cause base (DiskFault (place.Begin call)) u = HasFault (place.Begin call) u
Cause base (DiskFault place.MakeBench) u = HasFault place.MakeBench u
Cause base (DiskFault place.List) u = ⊥
Cause base (DiskFault place.Remove) u = ⊥
Cause base (DiskFault (place.Open call)) u = ⊥
Cause base (DiskFault (place.Create call)) u = ⊥
Cause base (DiskFault (place.Commit call)) u = ⊥
Cause base (DiskFault (place.Pack call)) u = ⊥
Cause base BenchFault u = Unit {0}
Cause base Memory u = Unit {0}
