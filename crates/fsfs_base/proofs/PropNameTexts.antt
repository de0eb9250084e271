-- Where a text stops to be a property's name.
use Rattle.std.proofs.Common.{◌≡◌, ℕ, zero, suc, ◌+◌, ◌<◌, ◌≤◌, Bool, true, false, not, cond, ltb, Some, None, inl, inr, List, [], ◌∷◌, ◌++◌, length, take, drop, get_or, refl, sym, ap, subst, ◌∙◌, arith}
use Rattle.std.proofs.lemmas.List.{append-nil, length-take, length-append, take_all, take-append-drop}
use Rattle.std.specs.List.{AllByRecursion, position, position_or_len}
use Rattle.std.proofs.lemmas.Bool.{ltb-true, ltb-false}
use Rattle.fsfs_base.proofs.Readers.{chosen}
use Rattle.fsfs_base.specs.Grammar.Relations.{GoesOn, IsFaultAt}
use Rattle.fsfs_base.specs.Fields.PropNames.{begins_name, continues_name, IsPropName, PropNameText}

abbrev Continue : List ℕ → Type 0
Continue = AllByRecursion (λ d. continues_name d ≡ true)

abbrev pub good : List ℕ → ℕ
good = position_or_len (λ b. not (continues_name b))

pub good_within : (cs : List ℕ) → good cs ≤ length cs
good_within [] = omega arith
good_within (c ∷ cs) = go (good_within cs) (continues_name c)
  where
    go : good cs ≤ length cs → (t : Bool) → cond (not (not t)) (1 + good cs) 0 ≤ suc (length cs)
    go h true = omega (arith, h)
    go h false = omega arith

-- up to as many bytes
good_all : (cs : List ℕ) (k : ℕ) → k ≤ good cs → Continue (take k cs)
good_all [] k le = let none : k ≡ 0 = omega (arith, le) in subst (λ (n : ℕ). Continue (take n [])) (sym none) tt
good_all (c ∷ cs) zero le = tt
good_all (c ∷ cs) (suc k) le = go (good_all cs k) (continues_name c) refl le
  where
    go : (k ≤ good cs → Continue (take k cs)) → (t : Bool) → continues_name c ≡ t → suc k ≤ cond (not (not t)) (1 + good cs) 0 → Continue (c ∷ take k cs)
    go h true is le = (is, h (omega (arith, le)))
    go h false is le = absurd (omega (arith, le))

-- and no more
good_most : (cs : List ℕ) (k : ℕ) → k ≤ length cs → Continue (take k cs) → k ≤ good cs
good_most [] k le all = omega (arith, le)
good_most (c ∷ cs) zero le all = omega arith
good_most (c ∷ cs) (suc k) le all = go (good_most cs k (omega (arith, le)) all.1) (continues_name c) all.0
  where
    go : k ≤ good cs → (t : Bool) → t ≡ true → suc k ≤ cond (not (not t)) (1 + good cs) 0
    go h true is = omega (arith, h)
    go h false is = absurd cc

first_part : (a b : List ℕ) → Continue (a ++ b) → Continue a
first_part [] b all = tt
first_part (c ∷ a) b all = (all.0, first_part a b all.1)

-- a name may follow
nothing_goes_on : GoesOn PropNameText []
nothing_goes_on = record { more = 58 ∷ []; value = tt; text = (refl, tt, omega arith) }

pub empty_fault : IsFaultAt PropNameText [] 0
empty_fault = record { within = omega arith; before = nothing_goes_on; behind = λ lt. absurd (omega (arith, lt)) }

pub first_fault : (c : ℕ) (cs : List ℕ) → begins_name c ≡ false → IsFaultAt PropNameText (c ∷ cs) 0
first_fault c cs bad = record { within = omega arith; before = nothing_goes_on; behind = λ lt g. let is = g.text.0 in absurd (let e : true ≡ false = sym is ∙ bad in cc) }

pub whole_name : (c : ℕ) (cs : List ℕ) → begins_name c ≡ true → good cs ≡ length cs → good cs < 255 → IsPropName (c ∷ cs)
whole_name c cs is all short = (is, subst Continue (take_all (good cs) cs (omega (arith, all))) (good_all cs (good cs) (omega arith)), omega (arith, all, short))

pub later_fault : (c : ℕ) (cs : List ℕ) (at : ℕ) → begins_name c ≡ true → at ≤ good cs → at < 255 → (at < 254 → at ≡ good cs) → IsFaultAt PropNameText (c ∷ cs) (suc at)
later_fault c cs at is le short most = record {
  within = omega (arith, le, good_within cs);
  before = record { more = []; value = tt; text = (is, subst Continue (sym (append-nil (take at cs))) (good_all cs at le), omega (arith, length-take at cs, ap length (append-nil (take at cs)), short)) };
  behind = λ lt g. blocked lt (subst (λ (k : ℕ). GoesOn PropNameText (take k (c ∷ cs))) (let e : suc at + 1 ≡ suc (suc at) = omega arith in e) g);
}
  where
    blocked : suc at < suc (length cs) → GoesOn PropNameText (c ∷ take (suc at) cs) → ⊥
    blocked lt g =
        let all = first_part (take (suc at) cs) g.more g.text.1 in
        let size : length (take (suc at) cs) ≡ suc at = omega (arith, length-take (suc at) cs, lt) in
        let fits = g.text.2 in
        let more = good_most cs (suc at) (omega (arith, lt)) all in
        omega (arith, more, most (omega (arith, fits, size, length-append (take (suc at) cs) g.more)))

pub good_none : (cs : List ℕ) → position (λ b. not (continues_name b)) cs ≡ None → good cs ≡ length cs
good_none cs e = elim (chosen (ltb (good cs) (length cs)) (Some (good cs)) None None e) [
  | inl w ↦ absurd cc
  | inr w ↦ omega (arith, ltb-false _ _ w.0, good_within cs)
]

pub good_some : (cs : List ℕ) (i : ℕ) → position (λ b. not (continues_name b)) cs ≡ Some i → (good cs ≡ i) × (i < length cs)
good_some cs i e = elim (chosen (ltb (good cs) (length cs)) (Some (good cs)) None (Some i) e) [
  | inl w ↦ let same : good cs ≡ i = cc in (same, omega (arith, same, ltb-true _ _ w.0))
  | inr w ↦ absurd cc
]

pub not_a_name : (text : List ℕ) (at : ℕ) → at < length text → IsFaultAt PropNameText text at → IsPropName text → ⊥
not_a_name text at lt fault is =
    let whole : text ≡ take (at + 1) text ++ drop (at + 1) text = sym (take-append-drop (at + 1) text) in
    fault.behind lt (record { more = drop (at + 1) text; value = tt; text = subst IsPropName whole is })

pub no_first : (text : List ℕ) → length text < 1 → IsFaultAt PropNameText text 0 × (IsPropName text → ⊥)
no_first [] lt = (empty_fault, λ is. is)
no_first (c ∷ cs) lt = absurd (omega (arith, lt))

pub bad_first : (text : List ℕ) (d : ℕ) → 1 ≤ length text → begins_name (get_or text 0 d) ≡ false → IsFaultAt PropNameText text 0 × (IsPropName text → ⊥)
bad_first [] d le bad = absurd (omega (arith, le))
bad_first (c ∷ cs) d le bad = (first_fault c cs bad, λ is. let e : true ≡ false = sym is.0 ∙ bad in cc)
