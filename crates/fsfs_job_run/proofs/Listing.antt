-- The label of a job's transaction, from its beginning to its end.
use Rattle.std.proofs.Common.{◌≡◌, ◌⊎◌, ◌≤◌, ◌<◌, ◌++◌, ◌∷◌, [], ℕ, zero, suc, arith, List, Bool, true, false, inl, inr, ⊎_elim, sym, subst}
use Rattle.std.specs.Prelude.{Option, None, option_map, Result, Ok, Err, OnOk, OnErr}
use Rattle.fsfs_base.specs.declared.fields.txn_name.TxnName.{TxnName}
use Rattle.fsfs_disk.specs.Labels.{Label, with_label, without_label}
use Rattle.fsfs_disk.specs.Transactions.Txns.{pair_of, txn_label}
use Rattle.fsfs_repo.specs.BeginLabels.{IsNew, IsUnlisted, ListsNoMore}
use Rattle.fsfs_machine.specs.Kept.{AllBelow, IsIn}
use Rattle.fsfs_turn.specs.Views.{View}
use Rattle.fsfs_job_run.specs.Running.{HasGiven}
use Rattle.fsfs_repo.proofs.Benching.{came_and_went}
use Rattle.fsfs_repo.specs.Owned.Labels.{LeavesLabels, Unlists}
use Rattle.fsfs_repo.specs.Txns.Commits.{IfBack}
use Rattle.fsfs_repo.specs.declared.txns.answers.CommitAnswer.{CommitAnswer}
use Rattle.fsfs_repo.specs.declared.txns.answers.CommitAnswer.TheVariants as answers
use Rattle.fsfs_repo.specs.declared.txns.answers.CommitBar.{CommitBar}
use Rattle.fsfs_base.specs.declared.places.place.DiskPlace.{DiskPlace}
use Rattle.fsfs_job_run.specs.Serial.Listed.{LeavesListed}
use Rattle.fsfs_job_run.proofs.ListedLemmas.{none_begun, one_gone, more_begun, failed_on}

-- ---- the end of a transaction

-- it was purged
pub purge_unlists : {X E P : Type 0} (l : Label) (old new : Option (List Label)) (result : Result X E) → OnOk result (new ≡ option_map (without_label l) old) → OnErr result P → IsUnlisted l P old new
purge_unlists l old new (Ok done) gone failed = inl gone
purge_unlists l old new (Err why) gone failed = inr failed

-- behind calls that keep all labels, and its name
pub unlisted_behind : (P Q : Type 0) (n m : TxnName) (old mid new : Option (List Label)) → (P → Q) → n ≡ m → mid ≡ old → IsUnlisted (txn_label (pair_of n)) P mid new → IsUnlisted (txn_label (pair_of m)) Q old new
unlisted_behind P Q n m old mid new f named same unlisted =
    subst (λ (k : TxnName). IsUnlisted (txn_label (pair_of k)) Q old new) named (subst (λ (o : Option (List Label)). IsUnlisted (txn_label (pair_of n)) Q o new) same (failed_on f unlisted))

-- a commit purged it
unlisted_by : (gone : Bool) (l : Label) (P : Type 0) (old new : Option (List Label)) → Unlists gone l P old new → IsUnlisted l P old new
unlisted_by true l P old new went = inl went
unlisted_by false l P old new stays = inr stays.0

module _ {X : Type 0} (l : Label) (P : Type 0) (old new : Option (List Label)) (answer : CommitAnswer X) (leaves : LeavesLabels answer l P old new) where
  pub committed_unlists : (rev : ℕ) (purged : Bool) → answer ≡ answers.Committed rev purged → IsUnlisted l P old new
  committed_unlists rev purged is = unlisted_by purged l P old new (subst (λ (a : CommitAnswer X). LeavesLabels a l P old new) is leaves)

  pub disk_unlists : (at : DiskPlace) → answer ≡ answers.DiskFault at → IsUnlisted l P old new
  disk_unlists at is = let w = subst (λ (a : CommitAnswer X). LeavesLabels a l P old new) is leaves in unlisted_by w.0 l P old new w.1

  pub bench_unlists : answer ≡ answers.BenchFault → IsUnlisted l P old new
  bench_unlists is = let w = subst (λ (a : CommitAnswer X). LeavesLabels a l P old new) is leaves in unlisted_by w.0 l P old new w.1

  -- it was handed back
  pub back_keeps : (bar : CommitBar) (txn : X) → answer ≡ answers.Barred bar txn → new ≡ old
  back_keeps bar txn is = subst (λ (a : CommitAnswer X). LeavesLabels a l P old new) is leaves

pub back_is : {X : Type 0} (answer : CommitAnswer X) (Q : X → Type 0) (bar : CommitBar) (txn : X) → answer ≡ answers.Barred bar txn → IfBack answer Q → Q txn
back_is {X} answer Q bar txn is back = subst (λ (a : CommitAnswer X). IfBack a Q) is back

-- ---- a job

below_one : (k n : ℕ) (given : List ℕ) → IsIn k given → AllBelow n given → k < n
below_one k n [] i below = absurd i
below_one k n (g ∷ given) (inl same) below = subst (λ (m : ℕ). m < n) same below.0
below_one k n (g ∷ given) (inr more) below = below_one k n given more below.1

-- a name that is new has a greater number than one that is given
pub new_from : (knows : View → Type 0) (least n : ℕ) → HasGiven knows least → IsNew knows n → least ≤ n
new_from knows zero n has fresh = omega arith
new_from knows (suc k) n has fresh = let less : k < n = below_one k n has.0.given has.3 (fresh has.0 has.1 has.2) in omega (arith, less)

-- what is given stays given
pub given_on : (knows after : View → Type 0) (least : ℕ) → ((v : View) → knows v → v.section ≡ None → (u : View) × after u × (u.section ≡ None) × ((k : ℕ) → IsIn k v.given → IsIn k u.given)) → HasGiven knows least → HasGiven after least
given_on knows after zero on has = tt
given_on knows after (suc k) on has = let u = on has.0 has.1 has.2 in (u.0, u.1, u.2, u.3 k has.3)

-- behind a beginning
pub begun_lists : (P Q : Type 0) (least : ℕ) (txn : ℕ × ℕ) (old mid new : Option (List Label)) → least ≤ txn.1 → (P → Q) → mid ≡ option_map (with_label (txn_label txn)) old → IsUnlisted (txn_label txn) P mid new → LeavesListed least 1 old new ⊎ Q
begun_lists P Q least txn old mid new from f came unlisted = ⊎_elim (λ gone. inl (one_gone least old new txn from (came_and_went (txn_label txn) old mid new came gone))) (λ p. inr (f p)) unlisted

-- behind one that failed
pub unbegun_lists : (P : Type 0) (knows : View → Type 0) (least base : ℕ) (old new : Option (List Label)) → HasGiven knows least → ListsNoMore (IsNew knows) base P old new → LeavesListed least 1 old new ⊎ P
unbegun_lists P knows least base old new has left = ⊎_elim (λ same. inl (none_begun least 1 old new same)) (λ w. ⊎_elim (λ gone. inl (one_gone least old new (base, w.0) (new_from knows least w.0 has w.1) gone)) (λ p. inr p) w.2) left

-- behind a call that keeps all labels
pub lists_behind : (P Q : Type 0) (least most : ℕ) (old mid new : Option (List Label)) → (P → Q) → mid ≡ old → LeavesListed least most mid new ⊎ P → LeavesListed least most old new ⊎ Q
lists_behind P Q least most old mid new f same lists = subst (λ (o : Option (List Label)). LeavesListed least most o new ⊎ Q) same (failed_on f lists)

-- before one
pub lists_then : (P Q : Type 0) (least most : ℕ) (old mid new : Option (List Label)) → (P → Q) → new ≡ mid → LeavesListed least most old mid ⊎ P → LeavesListed least most old new ⊎ Q
lists_then P Q least most old mid new f same lists = subst (λ (o : Option (List Label)). LeavesListed least most old o ⊎ Q) (sym same) (failed_on f lists)

-- of more jobs
pub lists_within : (P : Type 0) (least most all : ℕ) (old new : Option (List Label)) → most ≤ all → LeavesListed least most old new ⊎ P → LeavesListed least all old new ⊎ P
lists_within P least most all old new less lists = ⊎_elim (λ l. inl (more_begun least most all old new less l)) (λ p. inr p) lists
