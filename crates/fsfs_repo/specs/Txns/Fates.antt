-- What becomes of a transaction whose commit added nothing.
use Rattle.std.specs.Prelude.{◌≡◌, ℕ, List, false}
use Rattle.fsfs_base.specs.declared.places.place.DiskPlace.TheVariants as place
use Rattle.fsfs_machine.specs.declared.machine.Txn.{Txn}
use Rattle.fsfs_turn.specs.Views.{View}
use Rattle.fsfs_commit.specs.declared.committing.CommitFault.{CommitFault}
use Rattle.fsfs_commit.specs.declared.committing.CommitFault.TheVariants as faults
use Rattle.fsfs_commit.specs.declared.transaction.refusal.CommitRefusal.{CommitRefusal}
use Rattle.fsfs_commit.specs.declared.transaction.refusal.CommitRefusal.TheVariants as refusals
use Rattle.fsfs_repo.specs.declared.txns.answers.CommitBar.TheVariants as bars
use Rattle.fsfs_repo.specs.declared.txns.answers.Fate.{Fate}
use Rattle.fsfs_repo.specs.declared.txns.answers.Fate.TheVariants as fates
use Rattle.fsfs_commit.specs.Replies.{LeavesDoubt, Wrote, brings_doubt}
use Rattle.fsfs_repo.specs.Txns.Commits.{Bars, FailsAt}

abbrev pub of_refusal : CommitRefusal → Fate
of_refusal (refusals.Clash head path) = fates.Barred (bars.Conflict path head)
of_refusal refusals.Memory = fates.Barred bars.Memory
of_refusal (refusals.Wrong wrong) = fates.Barred (bars.Wrong wrong)
of_refusal (refusals.PastLimit limit) = fates.Barred (bars.PastLimit limit)
of_refusal refusals.Lacking = fates.Barred bars.Lacking
of_refusal refusals.DiskFault = fates.DiskFault place.Read
of_refusal refusals.Spent = fates.BenchFault
of_refusal refusals.BenchFault = fates.BenchFault

abbrev pub of_fault : CommitFault CommitRefusal → Fate
of_fault faults.RevsFull = fates.Barred bars.RevsFull
of_fault (faults.Stuck at) = fates.Barred (bars.Stuck at)
of_fault (faults.Refused refusal) = of_refusal refusal
of_fault (faults.DiskFault call) = fates.DiskFault (place.Commit call)

-- its cause, in what the pass knows
abbrev pub Fated : Fate → View → View → Txn → Type 0
Fated (fates.Barred bar) v u y = Bars bar u y
Fated (fates.DiskFault at) v u y = FailsAt at v u
Fated fates.BenchFault v u y = Unit {0}

-- a fact, unless a call failed at a place that leaves a revision in doubt
abbrev pub UnlessDoubtful : Fate → Type 0 → Type 0
UnlessDoubtful (fates.Barred bar) P = P
UnlessDoubtful (fates.DiskFault at) P = brings_doubt at ≡ false → P
UnlessDoubtful fates.BenchFault P = P

-- what is left in doubt is what was, unless a call failed: then it may be the revision that this commit was to add
abbrev pub FateLeft : Fate → List (List ℕ × List ℕ) → View → Txn → View → Type 0
FateLeft (fates.Barred bar) p v x u = u.left ≡ v.left
FateLeft (fates.DiskFault at) p v x u = LeavesDoubt (Wrote p v u x) v u
FateLeft fates.BenchFault p v x u = u.left ≡ v.left

-- a fact, where a call of the disk failed
abbrev pub IfStopped : Fate → Type 0 → Type 0
IfStopped (fates.DiskFault at) P = P
IfStopped fate P = Unit {0}

-- what is left has no bench that is told to have failed, or is used up, but for one that did: by what was left where it is handed back, and by
-- its bench where that is told
abbrev pub FateLeaves : Fate → Type 0 → Type 0 → Type 0
FateLeaves (fates.Barred bar) left failed = left
FateLeaves (fates.DiskFault at) left failed = Unit {0}
FateLeaves fates.BenchFault left failed = failed
