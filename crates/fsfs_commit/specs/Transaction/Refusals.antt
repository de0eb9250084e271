-- Why a transaction isn't landed or written, of the failures of the layers below; and what a clash is.
use Rattle.std.specs.Prelude.{◌≡◌, ◌<◌, ◌≤◌, ℕ, List, length}
use Rattle.std.specs.FinMap.{get}
use Rattle.fsfs_base.specs.Paths.{Path}
use Rattle.fsfs_tree.specs.Revisions.{tree_of}
use Rattle.fsfs_model.specs.Flat.Landing.{IsFirstClash}
use Rattle.fsfs_machine.specs.declared.machine.Recorded.{Recorded}
use Rattle.fsfs_machine.specs.declared.machine.Txn.{Txn}
use Rattle.fsfs_machine.specs.Machine.{revisions}
use Rattle.fsfs_draft.specs.declared.error.EditError.{EditError}
use Rattle.fsfs_draft.specs.declared.error.EditError.TheVariants as edits
use Rattle.fsfs_txn.specs.declared.txn_error.TxnError.{TxnError}
use Rattle.fsfs_txn.specs.declared.txn_error.TxnError.TheVariants as txns
use Rattle.fsfs_commit.specs.declared.final_rev.error.FinalError.{FinalError}
use Rattle.fsfs_commit.specs.declared.final_rev.error.FinalError.TheVariants as finals
use Rattle.fsfs_commit.specs.declared.transaction.refusal.CommitRefusal.{CommitRefusal}
use Rattle.fsfs_commit.specs.declared.transaction.refusal.CommitRefusal.TheVariants as refusals

abbrev pub of_edit : EditError → CommitRefusal
of_edit edits.OutOfMemory = refusals.Memory
of_edit edits.DiskFault = refusals.DiskFault
of_edit edits.BenchFault = refusals.BenchFault
of_edit (edits.Wrong wrong) = refusals.Wrong wrong
of_edit edits.Lacking = refusals.Lacking

abbrev pub of_txn : TxnError → CommitRefusal
of_txn (txns.Spent first) = refusals.Spent
of_txn (txns.Fault error) = of_edit error

abbrev pub of_final : FinalError → CommitRefusal
of_final finals.OutOfMemory = refusals.Memory
of_final finals.SinkFault = refusals.BenchFault
of_final finals.Lacking = refusals.Lacking
of_final (finals.PastLimit limit) = refusals.PastLimit limit

-- THE TRANSACTION CLASHES with this revision, which is one of these: this path is the first at which the two clash
pub record IsClashAt (path : Path) (head : ℕ) (h : List Recorded) (x : Txn) : Type 0 where
  pub later : x.base ≤ head
  pub there : head < length h
  pub first : IsFirstClash x.base (tree_of (revisions h) x.base) (tree_of (revisions h) head) (get x.tree) x.marks path

-- what a refusal to land the transaction on this revision, or to write it behind that, says: a clash is one with it. Damage is never told,
-- nor that the transaction isn't whole: what is known of the store says that it stands.
abbrev pub Refuses : CommitRefusal → ℕ → List Recorded → Txn → Type 0
Refuses (refusals.Clash rev path) head h x = (rev ≡ head) × IsClashAt path head h x
Refuses refusals.Spent head h x = Unit {0}
Refuses refusals.Memory head h x = Unit {0}
Refuses refusals.DiskFault head h x = Unit {0}
Refuses refusals.BenchFault head h x = Unit {0}
Refuses (refusals.Wrong wrong) head h x = ⊥
Refuses (refusals.PastLimit limit) head h x = Unit {0}
Refuses refusals.Lacking head h x = ⊥

-- it is for a failed call of the disk, by which a merge read
abbrev pub IsDiskFault : CommitRefusal → Type 0
IsDiskFault (refusals.Clash rev path) = ⊥
IsDiskFault refusals.Spent = ⊥
IsDiskFault refusals.Memory = ⊥
IsDiskFault refusals.DiskFault = Unit {0}
IsDiskFault refusals.BenchFault = ⊥
IsDiskFault (refusals.Wrong wrong) = ⊥
IsDiskFault (refusals.PastLimit limit) = ⊥
IsDiskFault refusals.Lacking = ⊥
