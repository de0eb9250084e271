-- What is known of a text that was printed, where another text and its end are known.
use Rattle.std.proofs.Common.{◌≡◌, ℕ, List, [], sym, ◌∙◌, append-nil, inl, inr, ◌⊎◌}
use Rattle.std.specs.Prelude.{◌≢◌}
use Rattle.fsfs_stands.specs.declared.look_fault.LookFault.{LookFault}
use Rattle.fsfs_stands.specs.Texts.{End, Whole, Refused, Stopped}
use Rattle.fsfs_stands.specs.Agreeing.{IsFront, Agree, HasOneText}

whole_not_stopped : Whole ≢ Stopped
whole_not_stopped e = cc

refused_not_stopped : (fault : LookFault) → Refused fault ≢ Stopped
refused_not_stopped fault e = cc

whole_not_refused : (fault : LookFault) → Whole ≢ Refused fault
whole_not_refused fault e = cc

refused_same : (f g : LookFault) → Refused f ≡ Refused g → f ≡ g
refused_same f g e = cc

same_front : (a b : List ℕ) → a ≡ b → IsFront a b
same_front a b e = ([], sym e ∙ sym (append-nil a))

-- no failure stopped either
both_end : (a b : List ℕ) (e f : End) → e ≢ Stopped → f ≢ Stopped → Agree a e b f → (a ≡ b) × (e ≡ f)
both_end a b e f first second (inl same) = same
both_end a b e f first second (inr (inl front)) = absurd (first front.0)
both_end a b e f first second (inr (inr front)) = absurd (second front.0)

-- no failure stopped the second
first_of_end : (a b : List ℕ) (e f : End) → f ≢ Stopped → Agree a e b f → IsFront a b
first_of_end a b e f second (inl same) = same_front a b same.0
first_of_end a b e f second (inr (inl front)) = front.1
first_of_end a b e f second (inr (inr front)) = absurd (second front.0)

module _ (R : List ℕ → End → Type 0) (one : HasOneText R) where
  -- what was printed, whole or stopped, is a first part of the text that has an end
  pub printed_is_front : (text whole : List ℕ) (end : End) → R text Stopped ⊎ R text Whole → R whole end → end ≢ Stopped → IsFront text whole
  printed_is_front text whole end (inl stopped) read ends = first_of_end text whole Stopped end ends (one text whole Stopped end stopped read)
  printed_is_front text whole end (inr printed) read ends = first_of_end text whole Whole end ends (one text whole Whole end printed read)

  pub refusals_same : (a b : List ℕ) (f g : LookFault) → R a (Refused f) → R b (Refused g) → (a ≡ b) × (f ≡ g)
  refusals_same a b f g v w =
      let same = both_end a b (Refused f) (Refused g) (refused_not_stopped f) (refused_not_stopped g) (one a b (Refused f) (Refused g) v w) in
      (same.0, refused_same f g same.1)

  pub whole_or_refused : (a b : List ℕ) (g : LookFault) → R a Whole → R b (Refused g) → ⊥
  whole_or_refused a b g v w =
      let same = both_end a b Whole (Refused g) whole_not_stopped (refused_not_stopped g) (one a b Whole (Refused g) v w) in
      whole_not_refused g same.1

  pub wholes_same : (a b : List ℕ) → R a Whole → R b Whole → a ≡ b
  wholes_same a b v w = (both_end a b Whole Whole whole_not_stopped whole_not_stopped (one a b Whole Whole v w)).0
