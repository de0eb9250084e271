-- Counts of faults. A count stops at the last number of a u64, and there every failure counts as risen.
use Rattle.std.specs.Prelude.{ℕ, ◌+◌, ◌-◌, ◌^◌, ◌≤◌, min, Result, IfErr}

-- the count rose, or stands at its last value
abbrev pub Rose : ℕ → ℕ → Type 0
Rose before now = min (before + 1) (2 ^ 64 - 1) ≤ now

-- a count never falls, and rose where the failure is one that it counts
pub record HasCause {T E : Type 0} (IfCounted : E → Type 0 → Type 0) (before now : ℕ) (result : Result T E) : Type 0 where
  pub later : before ≤ now
  pub failed : IfErr result (λ e. IfCounted e (Rose before now))
