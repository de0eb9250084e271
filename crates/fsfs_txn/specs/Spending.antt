-- Failures of a transaction's calls, and what they leave of its bench.
use Rattle.std.specs.Prelude.{◌≡◌, ◌+◌, ℕ, Bool, Option, Some, None, Result, Ok, Err, if◌then◌else◌}
use Rattle.fsfs_base.specs.Counts as counts
use Rattle.fsfs_base.specs.declared.failed.Failed.{Failed}
use Rattle.fsfs_draft.specs.Causes as causes
use Rattle.fsfs_draft.specs.Errors as errors
use Rattle.fsfs_draft.specs.declared.error.EditError.{EditError}
use Rattle.fsfs_draft.specs.declared.error.EditError.TheVariants as edits
use Rattle.fsfs_txn.specs.declared.txn_error.TxnError.{TxnError}
use Rattle.fsfs_txn.specs.declared.txn_error.TxnError.TheVariants as txns

-- the bench's failure spends the transaction, and no other does
abbrev pub spends : EditError → Option Failed → Option Failed
spends edits.BenchFault spent = Some (record {})
spends edits.OutOfMemory spent = spent
spends edits.DiskFault spent = spent
spends (edits.Wrong w) spent = spent
spends edits.Lacking spent = spent

-- the count after a move more; or the transaction is spent, or there is no room for the number
abbrev pub IsReady : Option Failed → ℕ → Result ℕ TxnError → Type 0
IsReady spent moves (Ok n) = (spent ≡ None) × (n ≡ moves + 1)
IsReady spent moves (Err (txns.Spent first)) = spent ≡ Some first
IsReady spent moves (Err (txns.Fault edits.OutOfMemory)) = spent ≡ None
IsReady spent moves (Err (txns.Fault edits.BenchFault)) = ⊥
IsReady spent moves (Err (txns.Fault edits.DiskFault)) = ⊥
IsReady spent moves (Err (txns.Fault (edits.Wrong w))) = ⊥
IsReady spent moves (Err (txns.Fault edits.Lacking)) = ⊥

-- a spent transaction tells the first failure, and no other call does; the first failure of its bench is kept
abbrev pub IsSpentAfter : {T : Type 0} → Option Failed → Option Failed → Result T TxnError → Type 0
IsSpentAfter old new (Ok x) = (old ≡ None) × (new ≡ None)
IsSpentAfter old new (Err (txns.Spent first)) = (old ≡ Some first) × (new ≡ old)
IsSpentAfter old new (Err (txns.Fault e)) = (old ≡ None) × (new ≡ spends e None)

-- each call of a spent transaction tells the first failure, and this is so
abbrev pub StaysSpent : {T : Type 0} → Option Failed → Result T TxnError → Type 0 → Type 0
StaysSpent spent result Same = (first : Failed) → spent ≡ Some first → (result ≡ Err (txns.Spent first)) × Same

-- the moves are counted: one more where the outcome is one
abbrev pub IsCounted : {T : Type 0} → (T → Bool) → ℕ → ℕ → Result T TxnError → Type 0
IsCounted moved old new (Ok outcome) = new ≡ (if moved outcome then old + 1 else old)
IsCounted moved old new (Err e) = new ≡ old

-- such a failure, and a fact, but where the bench failed: of a transaction that was not spent
abbrev pub IfStays : TxnError → Type 0 → Type 0
IfStays (txns.Spent first) P = ⊥
IfStays (txns.Fault e) P = errors.IfStays e P

-- memory ran out, or a disk or a bench failed, of a transaction that was not spent
abbrev pub IsFailure : TxnError → Type 0
IsFailure (txns.Spent first) = ⊥
IsFailure (txns.Fault e) = errors.IsFailure e

-- ---- counts of faults

abbrev pub IfDisk : TxnError → Type 0 → Type 0
IfDisk (txns.Spent first) P = Unit {0}
IfDisk (txns.Fault e) P = causes.IfDisk e P

abbrev pub HasDiskCause : {T : Type 0} → ℕ → ℕ → Result T TxnError → Type 0
HasDiskCause before now result = counts.HasCause IfDisk before now result

abbrev pub IsBenchCount : TxnError → ℕ → ℕ → Type 0
IsBenchCount (txns.Spent first) before now = now ≡ before
IsBenchCount (txns.Fault e) before now = causes.IsBenchCount e before now

abbrev pub HasBenchCause : {T : Type 0} → ℕ → ℕ → Result T TxnError → Type 0
HasBenchCause before now result = causes.HasCount IsBenchCount before now result
