-- A map from paths that is filled path by path.
use Rattle.std.proofs.Common.{◌≡◌, List, ◌∷◌, Bool, true, false, cond, ◌||◌, sym, ap, subst, ◌∙◌, ◌⊎◌, inl, inr, Option, Some, None}
use Rattle.std.proofs.lemmas.Bool.{cases_Bool}
use Rattle.std.specs.List.{list_any}
use Rattle.std.specs.Ordering.{eq_by_cmp}
use Rattle.std.specs.Cmp.{Equal-is}
use Rattle.std.specs.FinMap.{FinMap, get, insert, empty, get-empty, get-insert}
use Rattle.fsfs_base.specs.Paths.{Path, path_cmp, path_cmp_total}
use Rattle.fsfs_tree.proofs.TreeLemmas.{exact_paths}

abbrev pub Map : Type 0 → Type 0
Map X = FinMap path_cmp X

-- at q the map has what it is to have, or nothing yet, and then q is still to come
abbrev pub IsFilling : {X : Type 0} → (Path → Option X) → Map X → List Path → Path → Type 0
IsFilling f m rest q = (get m q ≡ f q) ⊎ ((get m q ≡ None) × (list_any (eq_by_cmp path_cmp q) rest ≡ true))

pub start : {X : Type 0} (f : Path → Option X) (m : Map X) (keys : List Path) → m ≡ empty → ((q : Path) → list_any (eq_by_cmp path_cmp q) keys ≡ false → f q ≡ None) → (q : Path) → IsFilling f m keys q
start f m keys e outside q = elim (cases_Bool (list_any (eq_by_cmp path_cmp q) keys)) [
  | inl w ↦ inr (ap (λ m. get m q) e ∙ get-empty path_cmp q, w)
  | inr w ↦ inl (ap (λ m. get m q) e ∙ get-empty path_cmp q ∙ sym (outside q w))
]

pub same_path_is : (q p : Path) → eq_by_cmp path_cmp q p ≡ true → q ≡ p
same_path_is q p h = exact_paths q p ((Equal-is (path_cmp q p)).0 h)

left_over : (b c : Bool) → b ≡ false → (b || c) ≡ true → c ≡ true
left_over b c h e = subst (λ v. (v || c) ≡ true) h e

pub put : {X : Type 0} (f : Path → Option X) (m : Map X) (p : Path) (rest left : List Path) (n : X) → left ≡ p ∷ rest → f p ≡ Some n → (q : Path) → IsFilling f m left q → IsFilling f (insert m p n) rest q
put f m p rest left n e h q w = elim (cases_Bool (eq_by_cmp path_cmp q p)) [
  | inl same ↦ inl (now ∙ ap (λ b. cond b (Some n) (get m q)) same ∙ sym h ∙ ap f (sym (same_path_is q p same)))
  | inr other ↦ elim w [
    | inl done ↦ inl (now ∙ ap (λ b. cond b (Some n) (get m q)) other ∙ done)
    | inr (none, more) ↦ inr (now ∙ ap (λ b. cond b (Some n) (get m q)) other ∙ none, left_over _ _ other (subst (λ xs. list_any (eq_by_cmp path_cmp q) xs ≡ true) e more))
  ]
]
  where
    now : get (insert m p n) q ≡ cond (eq_by_cmp path_cmp q p) (Some n) (get m q)
    now = get-insert path_cmp_total m p n q

pub skip : {X : Type 0} (f : Path → Option X) (m : Map X) (p : Path) (rest left : List Path) → left ≡ p ∷ rest → f p ≡ None → (q : Path) → IsFilling f m left q → IsFilling f m rest q
skip f m p rest left e h q (inl done) = inl done
skip f m p rest left e h q (inr (none, more)) = elim (cases_Bool (eq_by_cmp path_cmp q p)) [
  | inl same ↦ inl (none ∙ sym h ∙ ap f (sym (same_path_is q p same)))
  | inr other ↦ inr (none, left_over _ _ other (subst (λ xs. list_any (eq_by_cmp path_cmp q) xs ≡ true) e more))
]
