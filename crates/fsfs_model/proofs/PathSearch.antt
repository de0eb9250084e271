-- A walk down to a path, and a search through paths in order.
use Rattle.std.proofs.Common.{◌≡◌, ℕ, zero, suc, ◌+◌, ◌<◌, List, [], ◌∷◌, take, length, Bool, true, false, ◌&&◌, refl, sym, ap, subst, ◌∙◌, ◌⊎◌, inl, inr, arith, add-one}
use Rattle.std.proofs.lemmas.Bool.{and_from, or_cases, and_parts}
use Rattle.std.specs.List.{list_any, AllByRecursion}
use Rattle.std.specs.List.Sorted.{IsStrictlySortedBy}
use Rattle.std.specs.Ordering.{eq_by_cmp, is_eq, ordering_reverse}
use Rattle.std.specs.declared.cmp.Ordering.{Ordering}
use Rattle.std.specs.declared.cmp.Ordering.TheVariants.{Less, Greater}
use Rattle.std.specs.Cmp.{Equal-is}
use Rattle.std.proofs.lemmas.Map.Keys.{sorted_head, sorted_tail}
use mathlib.Core.Bool.{false≢true}
use Rattle.fsfs_base.specs.Paths.{Path, path_cmp, path_cmp_total}
use Rattle.fsfs_model.specs.Flat.Landing.{reached}
use Rattle.fsfs_tree.proofs.TreeLemmas.{exact_paths}

more : (go : Path → Bool) (k : ℕ) (p : Path) → k < length p → reached go (take k p) ≡ true → go (take k p) ≡ true → reached go (take (suc k) p) ≡ true
more go k [] lt r g = absurd (omega arith)
more go zero (x ∷ p) lt r g = and_from _ _ g refl
more go (suc k) (x ∷ p) lt r g = and_from _ _ (and_parts _ _ r).0 (more (λ q. go (x ∷ q)) k p (omega arith) (and_parts _ _ r).1 g)

-- one step further down
pub reached_more : (go : Path → Bool) (k : ℕ) (p : Path) → k < length p → reached go (take k p) ≡ true → go (take k p) ≡ true → reached go (take (k + 1) p) ≡ true
reached_more go k p lt r g = rw add-one (more go k p lt r g)

-- the walk stops above the path
pub reached_not : (go : Path → Bool) (k : ℕ) (p : Path) → k < length p → go (take k p) ≡ false → reached go p ≡ false
reached_not go k [] lt g = absurd (omega arith)
reached_not go zero (x ∷ p) lt g = ap (λ b. b && reached (λ q. go (x ∷ q)) p) g
reached_not go (suc k) (x ∷ p) lt g = ap (λ b. go [] && b) (reached_not (λ q. go (x ∷ q)) k p (omega arith) g) ∙ never (go [])
  where
    never : (b : Bool) → (b && false) ≡ false
    never true = refl
    never false = refl

not_less_and : (o : Ordering) → o ≡ Less → is_eq o ≡ true → ⊥
not_less_and o e h = false≢true (ap is_eq (sym e) ∙ h)

-- of paths that rise from p on, none is below p
pub none_before : (q p : Path) (rest : List Path) → AllByRecursion (λ y. path_cmp p y ≡ Less) rest → path_cmp q p ≡ Less → list_any (eq_by_cmp path_cmp q) rest ≡ true → ⊥
none_before q p [] all lt h = false≢true h
none_before q p (y ∷ rest) all lt h = elim (or_cases _ _ h) [
  | inl same ↦
      let e : q ≡ y = exact_paths q y ((Equal-is (path_cmp q y)).0 same) in
      let lt' : path_cmp p q ≡ Less = subst (λ v. path_cmp p v ≡ Less) (sym e) all.0 in
      let tie : path_cmp p p ≡ Less = path_cmp_total.trans p q p lt' lt in
      differ (sym tie ∙ path_cmp_total.antisymm p p ∙ ap ordering_reverse tie)
  | inr more ↦ none_before q p rest all.1 lt more
]
  where
    differ : Less ≡ Greater → ⊥
    differ e = cc

-- each path is known to fail the test, or is still to come
abbrev pub IsSearching : (Path → Bool) → List Path → Type 0
IsSearching f left = (q : Path) → (f q ≡ false) ⊎ (list_any (eq_by_cmp path_cmp q) left ≡ true)

pub searched : (f : Path → Bool) (p : Path) (rest left : List Path) → left ≡ p ∷ rest → f p ≡ false → IsSearching f left → IsSearching f rest
searched f p rest left e fails so q = elim (so q) [
  | inl a ↦ inl a
  | inr w ↦ elim (or_cases _ _ (subst (λ xs. list_any (eq_by_cmp path_cmp q) xs ≡ true) e w)) [
    | inl same ↦ inl (ap f (exact_paths q p ((Equal-is (path_cmp q p)).0 same)) ∙ fails)
    | inr more ↦ inr more
  ]
]

pub fails_before : (f : Path → Bool) (p : Path) (rest left : List Path) → left ≡ p ∷ rest → IsStrictlySortedBy path_cmp left → IsSearching f left → (q : Path) → path_cmp q p ≡ Less → f q ≡ false
fails_before f p rest left e rising so q lt = elim (so q) [
  | inl a ↦ a
  | inr w ↦ elim (or_cases _ _ (subst (λ xs. list_any (eq_by_cmp path_cmp q) xs ≡ true) e w)) [
    | inl same ↦ absurd (not_less_and (path_cmp q p) lt same)
    | inr more ↦ absurd (none_before q p rest (sorted_head path_cmp p rest (subst (IsStrictlySortedBy path_cmp) e rising)) lt more)
  ]
]

pub still_rising : (p : Path) (rest left : List Path) → left ≡ p ∷ rest → IsStrictlySortedBy path_cmp left → IsStrictlySortedBy path_cmp rest
still_rising p rest left e rising = sorted_tail path_cmp p rest (subst (IsStrictlySortedBy path_cmp) e rising)
