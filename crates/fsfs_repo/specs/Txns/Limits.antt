-- A transaction that is handed back since a path of it is past a limit.
use Rattle.fsfs_noderev.specs.declared.limits.limit.PathLimit.{PathLimit}
use Rattle.fsfs_repo.specs.declared.txns.answers.CommitBar.{CommitBar}
use Rattle.fsfs_repo.specs.declared.txns.answers.CommitBar.TheVariants as bars
use Rattle.fsfs_repo.specs.declared.txns.answers.CommitAnswer.{CommitAnswer}
use Rattle.fsfs_repo.specs.declared.txns.answers.CommitAnswer.TheVariants as answers
use Rattle.fsfs_repo.specs.declared.txns.answers.Fate.{Fate}
use Rattle.fsfs_repo.specs.declared.txns.answers.Fate.TheVariants as fates

-- a fact of the limit, where nothing was added for one
abbrev pub IfBarLimit : CommitBar → (PathLimit → Type 0) → Type 0
IfBarLimit (bars.Conflict path head) P = Unit {0}
IfBarLimit bars.RevsFull P = Unit {0}
IfBarLimit (bars.Stuck at) P = Unit {0}
IfBarLimit (bars.Wrong wrong) P = Unit {0}
IfBarLimit (bars.PastLimit limit) P = P limit
IfBarLimit bars.Lacking P = Unit {0}
IfBarLimit bars.Memory P = Unit {0}

abbrev pub IfFateLimit : Fate → (PathLimit → Type 0) → Type 0
IfFateLimit (fates.Barred bar) P = IfBarLimit bar P
IfFateLimit (fates.DiskFault at) P = Unit {0}
IfFateLimit fates.BenchFault P = Unit {0}

-- a fact of the limit and of the transaction that is handed back for it
abbrev pub IfPastLimit : {X : Type 0} → CommitAnswer X → (PathLimit → X → Type 0) → Type 0
IfPastLimit (answers.Committed rev purged) P = Unit {0}
IfPastLimit (answers.Barred bar txn) P = IfBarLimit bar (λ limit. P limit txn)
IfPastLimit (answers.DiskFault at) P = Unit {0}
IfPastLimit answers.BenchFault P = Unit {0}
