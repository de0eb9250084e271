-- Calls that fail, and the count of faults.
use Rattle.std.specs.Prelude.{◌≡◌, ℕ, ◌+◌, ◌-◌, ◌^◌, ◌≤◌, min, Result, OnOk, OnErr}
pub use Rattle.fsfs_base.specs.Counts.{Rose}

-- a count never falls, stays where the call is done, and rose where it failed
pub record HasCause {T E : Type 0} (before now : ℕ) (result : Result T E) : Type 0 where
  pub later : before ≤ now
  pub kept : OnOk result (now ≡ before)
  pub failed : OnErr result (Rose before now)

-- the sum of two counts
abbrev pub added_count : ℕ → ℕ → ℕ
added_count before more = min (before + more) (2 ^ 64 - 1)
