-- What becomes of labels, where nobody else has turns.
use Rattle.std.proofs.Common.{◌≡◌, List, Bool, true, false, inl, inr, ⊎_elim, refl, ap, ◌∙◌}
use Rattle.std.specs.Prelude.{Option, Result, Ok, Err, OnErr, option_map}
use Rattle.fsfs_disk.specs.Labels.{Label, without_label}
use Rattle.fsfs_repo.specs.Txns.Labels.{LeavesLabels as LeavesMet, Unlists as UnlistsMet}
use Rattle.fsfs_repo.specs.declared.txns.answers.CommitAnswer.{CommitAnswer}
use Rattle.fsfs_repo.specs.declared.txns.answers.CommitAnswer.TheVariants as answers
use Rattle.fsfs_repo.specs.Owned.Labels.{LeavesLabels, Unlists}

module _ (l : Label) (rose : Type 0) (old new : Option (List Label)) where
  unlists_alone : (gone : Bool) → UnlistsMet false gone l rose old new → Unlists gone l rose old new
  unlists_alone true w = w.made ∙ ap (λ o. option_map (without_label l) o) (w.is_met refl)
  unlists_alone false w = (w.0, ⊎_elim (λ same. inl (same ∙ w.1.is_met refl)) (λ made. inr (made ∙ ap (λ o. option_map (without_label l) o) (w.1.is_met refl))) w.1.either)

  pub leaves_alone : {X : Type 0} (answer : CommitAnswer X) → LeavesMet false answer l rose old new → LeavesLabels answer l rose old new
  leaves_alone (answers.Committed rev purged) w = unlists_alone purged w
  leaves_alone (answers.Barred bar txn) w = w refl
  leaves_alone (answers.DiskFault at) w = (w.0, unlists_alone w.0 w.1)
  leaves_alone answers.BenchFault w = (w.0, unlists_alone w.0 w.1)

-- a fact of turns on which nobody else rests
pub if_free : {X E : Type 0} (r : Result X E) (P : Type 0) → OnErr r (false ≡ false → P) → OnErr r P
if_free (Ok x) P w = tt
if_free (Err e) P w = w refl
