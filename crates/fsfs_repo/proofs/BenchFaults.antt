-- Where a bench is told to have failed, or a transaction comes back used up, it did.
use Rattle.std.proofs.Common.{◌≡◌, ◌<◌, ℕ, true, sym, ap, subst, ◌∙◌}
use Rattle.std.specs.Prelude.{Option, None, is_some, Result, Ok, Err, IfErr}
use Rattle.fsfs_base.specs.declared.failed.Failed.{Failed}
use Rattle.fsfs_commit.specs.Found.{LeavesSo}
use Rattle.fsfs_commit.specs.declared.committing.CommitFault.{CommitFault}
use Rattle.fsfs_commit.specs.declared.committing.CommitFault.TheVariants as faults
use Rattle.fsfs_commit.specs.Transaction.Findings.{SpentByBench, Blames}
use Rattle.fsfs_commit.specs.Transaction.Meaning.{OfLeft, OfStage, bench_of}
use Rattle.fsfs_commit.specs.declared.transaction.open_txn.OpenTxn.{OpenTxn}
use Rattle.fsfs_commit.specs.declared.transaction.refusal.CommitRefusal.{CommitRefusal}
use Rattle.fsfs_commit.specs.declared.transaction.refusal.CommitRefusal.TheVariants as refusals
use Rattle.fsfs_commit.specs.declared.transaction.txn_draft.Left.{Left}
use Rattle.fsfs_commit.specs.declared.transaction.txn_draft.Left.TheVariants.{Txn as Kept, Bench}
use Rattle.fsfs_commit.specs.declared.transaction.txn_draft.Stage.{Stage}
use Rattle.fsfs_commit.specs.declared.transaction.txn_draft.Stage.TheVariants.{Open}
use Rattle.fsfs_repo.specs.declared.txns.answers.CommitBar.{CommitBar}
use Rattle.fsfs_repo.specs.declared.txns.answers.Fate.{Fate}
use Rattle.fsfs_repo.specs.declared.txns.answers.Fate.TheVariants as fates
use Rattle.fsfs_repo.specs.Txns.Fates.{FateLeaves, of_refusal, of_fault}

pub unspent : {P : Type 0} (spent : Option Failed) → spent ≡ None → is_some spent ≡ true → P
unspent spent none is = let e = sym (ap (λ (o : Option Failed). is_some o) none) ∙ is in absurd cc

pub barred_left : (fate : Fate) (bar : CommitBar) (left failed : Type 0) → fate ≡ fates.Barred bar → FateLeaves fate left failed → left
barred_left fate bar left failed is k = subst (λ (f : Fate). FateLeaves f left failed) is k

pub failed_left : (fate : Fate) (left failed : Type 0) → fate ≡ fates.BenchFault → FateLeaves fate left failed → failed
failed_left fate left failed is k = subst (λ (f : Fate). FateLeaves f left failed) is k

pub fate_left : (fate : Fate) (fault : CommitFault CommitRefusal) (left failed : Type 0) → fate ≡ of_fault fault → FateLeaves (of_fault fault) left failed → FateLeaves fate left failed
fate_left fate fault left failed is k = subst (λ (f : Fate). FateLeaves f left failed) (sym is) k

module _ {B : Type 0} {D : _} (failures : B → ℕ) where
  -- it is used up, and its bench left, only where that failed
  abbrev lives_on : Left B D → Type 0
  lives_on left = OfLeft left (λ t. SpentByBench (failures t.own.bench) t.spent) (λ b. 0 < failures b)

  abbrev has_failed : Left B D → Type 0
  has_failed left = 0 < failures (bench_of left)

  blamed : (left : Left B D) (why : CommitRefusal) → OfLeft left (λ t. Blames (failures t.own.bench) t.spent why) (λ b. 0 < failures b) → FateLeaves (of_refusal why) (lives_on left) (has_failed left)
  blamed (Kept t) (refusals.Clash head path) k = k.0
  blamed (Kept t) refusals.Spent k = k.1
  blamed (Kept t) refusals.Memory k = k.0
  blamed (Kept t) refusals.DiskFault k = tt
  blamed (Kept t) refusals.BenchFault k = k.1
  blamed (Kept t) (refusals.Wrong wrong) k = k.0
  blamed (Kept t) (refusals.PastLimit limit) k = k.0
  blamed (Kept t) refusals.Lacking k = k.0
  blamed (Bench b) (refusals.Clash head path) k = k
  blamed (Bench b) refusals.Spent k = k
  blamed (Bench b) refusals.Memory k = k
  blamed (Bench b) refusals.DiskFault k = tt
  blamed (Bench b) refusals.BenchFault k = k
  blamed (Bench b) (refusals.Wrong wrong) k = k
  blamed (Bench b) (refusals.PastLimit limit) k = k
  blamed (Bench b) refusals.Lacking k = k

  living : (left : Left B D) → OfLeft left (λ t. SpentByBench (failures t.own.bench) t.spent) (λ b. ⊥) → lives_on left
  living (Kept t) k = k
  living (Bench b) k = absurd k

  pub bench_left : (left : Left B D) (bench : B) → left ≡ Bench bench → lives_on left → 0 < failures bench
  bench_left left bench is k = subst (λ (l : Left B D). lives_on l) is k

  pub txn_left : (left : Left B D) (txn : _) → left ≡ Kept txn → lives_on left → SpentByBench (failures txn.own.bench) txn.spent
  txn_left left txn is k = subst (λ (l : Left B D). lives_on l) is k

  -- one that is not used up lives, as it is given to a commit
  pub fresh_lives : (stage : Stage B D) (o : OpenTxn B D) → o.txn.spent ≡ None → stage ≡ Open o → OfStage stage (λ o. SpentByBench (failures o.txn.own.bench) o.txn.spent) (λ e. ⊥)
  fresh_lives stage o sound is = subst (λ (s : Stage B D). OfStage s (λ o. SpentByBench (failures o.txn.own.bench) o.txn.spent) (λ e. ⊥)) (sym is) (λ spent. unspent o.txn.spent sound spent)

  pub leaves_so : {X : Type 0} {lives : Type 0} {blames : CommitRefusal → Type 0} (left : Left B D) (done : Result X (CommitFault CommitRefusal)) → IfErr done (LeavesSo lives blames) → (lives → OfLeft left (λ t. SpentByBench (failures t.own.bench) t.spent) (λ b. ⊥))
      → ((why : CommitRefusal) → blames why → OfLeft left (λ t. Blames (failures t.own.bench) t.spent why) (λ b. 0 < failures b)) → IfErr done (λ fault. FateLeaves (of_fault fault) (lives_on left) (has_failed left))
  leaves_so left (Ok x) k lives blames = tt
  leaves_so left (Err faults.RevsFull) k lives blames = living left (lives k)
  leaves_so left (Err (faults.Stuck place)) k lives blames = living left (lives k)
  leaves_so left (Err (faults.Refused why)) k lives blames = blamed left why (blames why k)
  leaves_so left (Err (faults.DiskFault place)) k lives blames = tt
