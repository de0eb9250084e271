-- What a check prints of bytes is one text, but for what a failure leaves out; and of those that show a history it is a line for each revision.
use Rattle.std.proofs.Common.{◌≡◌, ◌≤◌, ◌<◌, ◌⊎◌, ◌++◌, ℕ, zero, suc, List, [], inl, inr, refl, sym, ap, ◌∙◌, append-nil, append_assoc, arith}
use Rattle.std.proofs.lemmas.Bool.{cases_order}
use Rattle.fsfs_revision.specs.Told.{RevisionBytes}
use Rattle.fsfs_revision.specs.declared.wrong.Wrong.{Wrong}
use Rattle.fsfs_sound.specs.Laws.{ShowsOpenHistory}
use Rattle.fsfs_sound.proofs.NoDamage.{no_damage}
use Rattle.fsfs_stands.specs.Agreeing.{IsFront}
use Rattle.fsfs_stands.specs.Texts.{Refused, Stopped}
use Rattle.fsfs_stands.specs.declared.look_fault.LookFault.{LookFault}
use Rattle.fsfs_stands.specs.declared.look_fault.LookFault.TheVariants as faults
use Rattle.fsfs_verify.specs.Texts.{verified_line, verified_lines, IsFirstDamage, VerifyText}

-- the lines of fewer revisions are a first part
lines_more : (n k : ℕ) → (n ≡ suc k) ⊎ ((n < suc k) ⊎ (suc k < n)) → n ≤ suc k → (n ≤ k → IsFront (verified_lines n) (verified_lines k)) → IsFront (verified_lines n) (verified_lines (suc k))
lines_more n k (inl same) le before = ([], ap verified_lines (sym same) ∙ sym (append-nil (verified_lines n)))
lines_more n k (inr (inl less)) le before =
    let b = before (omega (arith, less)) in
    (b.0 ++ verified_line k, ap (λ (t : List ℕ). t ++ verified_line k) b.1 ∙ append_assoc (verified_lines n) b.0 (verified_line k))
lines_more n k (inr (inr more)) le before = absurd (omega (arith, le, more))

pub lines_front : (n k : ℕ) → n ≤ k → IsFront (verified_lines n) (verified_lines k)
lines_front zero zero le = ([], refl)
lines_front (suc n) zero le = absurd (omega (arith, le))
lines_front n (suc k) le = lines_more n k (cases_order n (suc k)) le (λ lower. lines_front n k lower)

module _ (look props : RevisionBytes) (youngest : ℕ) where
  -- of bytes that show a history nothing is refused
  pub nothing_refused : (text : List ℕ) (why : LookFault) → ShowsOpenHistory look props youngest → VerifyText look props youngest text (Refused why) → ⊥
  nothing_refused text (faults.NotFound names) sound is = is
  nothing_refused text (faults.NotDir names) sound is = is
  nothing_refused text faults.NotFile sound is = is
  nothing_refused text (faults.Wrong w) sound (n, first, same) = no_damage look props youngest n w sound first.upto first.damaged

  -- a failure leaves out the last lines
  pub stopped_front : (text : List ℕ) → VerifyText look props youngest text Stopped → IsFront text (verified_lines (suc youngest))
  stopped_front text (n, le, before, same) =
      let f = lines_front n (suc youngest) le in
      (f.0, f.1 ∙ ap (λ (t : List ℕ). t ++ f.0) (sym same))

  -- the first revision with which something is wrong is one
  not_before : (n k : ℕ) (w x : Wrong) → IsFirstDamage look props youngest n w → IsFirstDamage look props youngest k x → n < k → ⊥
  not_before n zero w x f g less = omega (arith, less)
  not_before n (suc top) w x f g less = no_damage look props top n w g.before (omega (arith, less)) f.damaged

  one_revision : (n k : ℕ) (w x : Wrong) → IsFirstDamage look props youngest n w → IsFirstDamage look props youngest k x → n ≡ k
  one_revision n k w x f g = by (cases_order n k)
    where
      by : (n ≡ k) ⊎ ((n < k) ⊎ (k < n)) → n ≡ k
      by (inl same) = same
      by (inr (inl less)) = absurd (not_before n k w x f g less)
      by (inr (inr more)) = absurd (not_before k n x w g f more)

  pub one_refused : (text other : List ℕ) (why also : LookFault) → VerifyText look props youngest text (Refused why) → VerifyText look props youngest other (Refused also) → text ≡ other
  one_refused text other (faults.NotFound names) also is has = absurd is
  one_refused text other (faults.NotDir names) also is has = absurd is
  one_refused text other faults.NotFile also is has = absurd is
  one_refused text other (faults.Wrong w) (faults.NotFound names) is has = absurd has
  one_refused text other (faults.Wrong w) (faults.NotDir names) is has = absurd has
  one_refused text other (faults.Wrong w) faults.NotFile is has = absurd has
  one_refused text other (faults.Wrong w) (faults.Wrong x) (n, f, same) (k, g, twin) = same ∙ ap verified_lines (one_revision n k w x f g) ∙ sym twin
