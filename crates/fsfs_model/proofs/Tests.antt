-- What a test of a list, or one of two tests, tells.
use Rattle.std.proofs.Common.{◌≡◌, Bool, true, false, ◌&&◌, List, [], ◌∷◌, refl, sym, subst, inl, inr}
use Rattle.std.proofs.lemmas.Bool.{or_cases, or_left, or_right, both_ways, false≢true}
use Rattle.std.specs.List.{list_any}
use Rattle.fsfs_model.specs.Laws.{In}

pub found : {A : Type 0} (test : A → Bool) (xs : List A) → list_any test xs ≡ true → (x : A) × In xs x × (test x ≡ true)
found test [] h = absurd (false≢true h)
found test (x ∷ xs) h = elim (or_cases _ _ h) [
  | inl w ↦ (x, inl refl, w)
  | inr w ↦ let r = found test xs w in (r.0, inr r.1, r.2)
]

pub found_in : {A : Type 0} (test : A → Bool) (xs : List A) (x : A) → In xs x → test x ≡ true → list_any test xs ≡ true
found_in test [] x i h = absurd i
found_in test (y ∷ ys) x i h = elim i [
  | inl e ↦ or_left _ _ (subst (λ v. test v ≡ true) (sym e) h)
  | inr w ↦ or_right _ _ (found_in test ys x w h)
]

-- ---- two tests of which one fails

pub other_side : (a b : Bool) → (a && b) ≡ false → b ≡ true → a ≡ false
other_side true b h e = absurd (both_ways _ h e)
other_side false b h e = refl

pub other_false : (b c : Bool) → (b && c) ≡ false → b ≡ true → c ≡ false
other_false true c h e = h
other_false false c h e = absurd (false≢true e)
