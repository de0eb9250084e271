-- Counts of faults, where a step of an edit fails, or the whole edit.
use Rattle.std.specs.Prelude.{◌≡◌, ◌≤◌, ℕ, Result, OnOk, IfErr}
use Rattle.fsfs_base.specs.Counts as counts
use Rattle.fsfs_base.specs.Counts.{Rose}
use Rattle.fsfs_draft.specs.declared.txn_noderevs.OwnError.{OwnError}
use Rattle.fsfs_draft.specs.declared.txn_noderevs.OwnError.TheVariants as owns
use Rattle.fsfs_draft.specs.declared.error.EditError.{EditError}
use Rattle.fsfs_draft.specs.declared.error.EditError.TheVariants as errors

-- ---- the book's count

-- a fact, where the disk failed
abbrev pub IfDisk : EditError → Type 0 → Type 0
IfDisk errors.DiskFault P = P
IfDisk errors.BenchFault P = Unit {0}
IfDisk errors.OutOfMemory P = Unit {0}
IfDisk (errors.Wrong w) P = Unit {0}
IfDisk errors.Lacking P = Unit {0}

-- a book's count of faults never falls, and rose where the disk failed
abbrev pub HasDiskCause : {T : Type 0} → ℕ → ℕ → Result T EditError → Type 0
HasDiskCause before now result = counts.HasCause IfDisk before now result

-- ---- the bench's count

-- a count never falls, stays where the call is done, and does this where it failed
pub record HasCount {T E : Type 0} (Failed : E → ℕ → ℕ → Type 0) (before now : ℕ) (result : Result T E) : Type 0 where
  pub later : before ≤ now
  pub kept : OnOk result (now ≡ before)
  pub failed : IfErr result (λ e. Failed e before now)

-- it rose where the bench failed, else it stays
abbrev pub IsSettleCount : OwnError → ℕ → ℕ → Type 0
IsSettleCount owns.BenchFault before now = Rose before now
IsSettleCount owns.OutOfMemory before now = now ≡ before

abbrev pub IsBenchCount : EditError → ℕ → ℕ → Type 0
IsBenchCount errors.BenchFault before now = Rose before now
IsBenchCount errors.OutOfMemory before now = now ≡ before
IsBenchCount errors.DiskFault before now = now ≡ before
IsBenchCount (errors.Wrong w) before now = now ≡ before
IsBenchCount errors.Lacking before now = now ≡ before

abbrev pub HasSettleCause : {T : Type 0} → ℕ → ℕ → Result T OwnError → Type 0
HasSettleCause before now result = HasCount IsSettleCount before now result

-- a bench's count of faults rose exactly where the bench failed: it stays in any other answer
abbrev pub HasBenchCause : {T : Type 0} → ℕ → ℕ → Result T EditError → Type 0
HasBenchCause before now result = HasCount IsBenchCount before now result
