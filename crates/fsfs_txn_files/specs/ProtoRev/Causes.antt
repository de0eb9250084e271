-- Counts of faults, where a text is put.
use Rattle.std.specs.Prelude.{ℕ, Result}
use Rattle.fsfs_base.specs.Counts.{HasCause}
use Rattle.fsfs_txn_files.specs.declared.proto_rev.text_error.TextError.{TextError}
use Rattle.fsfs_txn_files.specs.declared.proto_rev.text_error.TextError.TheVariants.{SourceFault, TextTooLong, Checksum, BenchFault}

-- a fact, where the source failed
abbrev pub IfSource : TextError → Type 0 → Type 0
IfSource SourceFault P = P
IfSource TextTooLong P = Unit {0}
IfSource (Checksum kept found) P = Unit {0}
IfSource BenchFault P = Unit {0}

-- a fact, where the bench failed
abbrev pub IfBench : TextError → Type 0 → Type 0
IfBench BenchFault P = P
IfBench SourceFault P = Unit {0}
IfBench TextTooLong P = Unit {0}
IfBench (Checksum kept found) P = Unit {0}

-- a count never falls, and rose where that object failed
abbrev pub HasSourceCause : {T : Type 0} → ℕ → ℕ → Result T TextError → Type 0
HasSourceCause before now result = HasCause IfSource before now result

abbrev pub HasBenchCause : {T : Type 0} → ℕ → ℕ → Result T TextError → Type 0
HasBenchCause before now result = HasCause IfBench before now result
