-- What becomes of the label of a transaction, by the purge of it.
use Rattle.std.proofs.Common.{◌≡◌, List, Bool, true, false, ℕ, inl, inr, ⊎_elim, ap, subst, ◌∙◌}
use Rattle.std.specs.Prelude.{Option, Result, Ok, Err, IfOk, OnErr, option_map}
use Rattle.fsfs_disk.specs.Labels.{Label, Txn, with_label, without_label}
use Rattle.fsfs_base.specs.declared.fields.txn_name.TxnName.{TxnName}
use Rattle.fsfs_disk.specs.Transactions.Txns.{pair_of, txn_label}
use Rattle.fsfs_turn.specs.Labels.{KeepsLabels, Relabels, Drops}
use Rattle.fsfs_begin.specs.Labels.{IsUnlisted, ListsNoMore}
use Rattle.fsfs_begin.proofs.Benching.{came_and_went}
use Rattle.fsfs_repo.specs.Txns.Labels.{LeavesLabels, Unlists}
use Rattle.fsfs_repo.specs.declared.txns.answers.CommitAnswer.{CommitAnswer}
use Rattle.fsfs_repo.specs.declared.txns.answers.CommitAnswer.TheVariants as answers

-- ---- where nobody else has turns

pub forgotten : {E : Type 0} (bound : Bool) (l : Label) (rose : Type 0) (old new : Option (List Label)) (r : Result Bool E) → bound ≡ false → IfOk r (λ there. Drops bound l there old new) → OnErr r rose → IsUnlisted l rose old new
forgotten bound l rose old new (Ok there) free done failed = inl (done.made ∙ ap (λ o. option_map (without_label l) o) (done.is_met free))
forgotten bound l rose old new (Err e) free done failed = inr failed

pub relabelled : (bound : Bool) (f : List Label → List Label) (old new : Option (List Label)) → bound ≡ false → Relabels bound f old new → new ≡ option_map f old
relabelled bound f old new free r = r.made ∙ ap (λ o. option_map f o) (r.is_met free)

-- a transaction that was begun and forgotten again
pub forgets : (N : ℕ → Type 0) (base : ℕ) (name : TxnName) (P Q : Type 0) (old mid new : Option (List Label)) → N name.number.number → name.base ≡ base → mid ≡ option_map (with_label (txn_label (pair_of name))) old → (P → Q) → IsUnlisted (txn_label (pair_of name)) P mid new → ListsNoMore N base Q old new
forgets N base name P Q old mid new named at came f w =
    inr (name.number.number, named, subst (λ (b : ℕ). IsUnlisted (Txn b name.number.number) Q old new) at (⊎_elim (λ gone. inl (came_and_went (txn_label (pair_of name)) old mid new came gone)) (λ p. inr (f p)) w))

-- ---- by what the calls before it left

module _ (bound then : Bool) (l : Label) (P Q : Type 0) (old mid new : Option (List Label)) (duty : then ≡ bound) (keeps : KeepsLabels bound old mid) (f : P → Q) where
  unlists_on : (gone : Bool) → Unlists then gone l P mid new → Unlists bound gone l Q old new
  unlists_on true w = record { met = w.met; is_met = λ free. w.is_met (duty ∙ free) ∙ keeps free; made = w.made }
  unlists_on false w = (f w.0, record { met = w.1.met; is_met = λ free. w.1.is_met (duty ∙ free) ∙ keeps free; either = w.1.either })

  leaves_on : {X : Type 0} (answer : CommitAnswer X) → LeavesLabels then answer l P mid new → LeavesLabels bound answer l Q old new
  leaves_on (answers.Committed rev purged) w = unlists_on purged w
  leaves_on (answers.Barred bar txn) w = λ free. w (duty ∙ free) ∙ keeps free
  leaves_on (answers.DiskFault at) w = (w.0, unlists_on w.0 w.1)
  leaves_on answers.BenchFault w = (w.0, unlists_on w.0 w.1)

-- behind the whole commit, by the name that the transaction has
pub leaves_labels : {X : Type 0} (answer : CommitAnswer X) (name other : TxnName) (bound then : Bool) (P Q : Type 0) (old mid new : Option (List Label)) → other ≡ name → then ≡ bound → KeepsLabels bound old mid → (P → Q)
    → LeavesLabels then answer (txn_label (pair_of other)) P mid new → LeavesLabels bound answer (txn_label (pair_of name)) Q old new
leaves_labels answer name other bound then P Q old mid new named duty keeps f w =
    leaves_on bound then (txn_label (pair_of name)) P Q old mid new duty keeps f answer (subst (λ (n : TxnName). LeavesLabels then answer (txn_label (pair_of n)) P mid new) named w)
