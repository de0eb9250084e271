-- What a refusal says of what the transaction holds then, whatever is known of the store.
use Rattle.std.specs.Prelude.{◌≡◌, ◌<◌, ℕ, true, Option, is_some}
use Rattle.fsfs_base.specs.declared.failed.Failed.{Failed}
use Rattle.fsfs_draft.specs.Drafts.{Folder}
use Rattle.fsfs_noderev.specs.declared.limits.limit.PathLimit.{PathLimit}
use Rattle.fsfs_commit.specs.FinalRev.Texts.{HasPathPast}
use Rattle.fsfs_commit.specs.declared.transaction.refusal.CommitRefusal.{CommitRefusal}
use Rattle.fsfs_commit.specs.declared.transaction.refusal.CommitRefusal.TheVariants as refusals

-- a path of an item of its edits, or of a node-revision that it holds, is past this limit
abbrev pub HoldsPast : Folder → PathLimit → Type 0
HoldsPast settled limit = HasPathPast settled settled.items limit

-- a transaction that is used up is so by a failure of its bench, which is kept; one that is refused for its bench has one that failed; and
-- one that is past a limit holds a path past that very limit
abbrev pub Finds : ℕ → Option Failed → Folder → CommitRefusal → Type 0
Finds faults spent settled (refusals.Clash rev path) = Unit {0}
Finds faults spent settled refusals.Spent = is_some spent ≡ true
Finds faults spent settled refusals.Memory = Unit {0}
Finds faults spent settled refusals.DiskFault = Unit {0}
Finds faults spent settled refusals.BenchFault = 0 < faults
Finds faults spent settled (refusals.Wrong wrong) = Unit {0}
Finds faults spent settled (refusals.PastLimit limit) = HoldsPast settled limit
Finds faults spent settled refusals.Lacking = Unit {0}

-- one that was written, or of which a part was, is past no limit
abbrev pub FindsEnded : ℕ → CommitRefusal → Type 0
FindsEnded faults (refusals.Clash rev path) = Unit {0}
FindsEnded faults refusals.Spent = Unit {0}
FindsEnded faults refusals.Memory = Unit {0}
FindsEnded faults refusals.DiskFault = Unit {0}
FindsEnded faults refusals.BenchFault = 0 < faults
FindsEnded faults (refusals.Wrong wrong) = Unit {0}
FindsEnded faults (refusals.PastLimit limit) = ⊥
FindsEnded faults refusals.Lacking = Unit {0}

-- a fact of the limit, where it is for one
abbrev pub IfLimit : CommitRefusal → (PathLimit → Type 0) → Type 0
IfLimit (refusals.Clash rev path) P = Unit {0}
IfLimit refusals.Spent P = Unit {0}
IfLimit refusals.Memory P = Unit {0}
IfLimit refusals.DiskFault P = Unit {0}
IfLimit refusals.BenchFault P = Unit {0}
IfLimit (refusals.Wrong wrong) P = Unit {0}
IfLimit (refusals.PastLimit limit) P = P limit
IfLimit refusals.Lacking P = Unit {0}

-- ---- the bench

-- it is used up only where its bench failed
abbrev pub SpentByBench : ℕ → Option Failed → Type 0
SpentByBench faults spent = is_some spent ≡ true → 0 < faults

-- a fact, where a refusal is for a bench that failed
abbrev pub IfBench : CommitRefusal → Type 0 → Type 0
IfBench (refusals.Clash rev path) P = Unit {0}
IfBench refusals.Spent P = P
IfBench refusals.Memory P = Unit {0}
IfBench refusals.DiskFault P = Unit {0}
IfBench refusals.BenchFault P = P
IfBench (refusals.Wrong wrong) P = Unit {0}
IfBench (refusals.PastLimit limit) P = Unit {0}
IfBench refusals.Lacking P = Unit {0}

abbrev pub Blames : ℕ → Option Failed → CommitRefusal → Type 0
Blames faults spent why = SpentByBench faults spent × IfBench why (0 < faults)
