-- Two lists of the same texts, each once, differ in their order alone.
use Rattle.std.proofs.Common.{◌≡◌, ◌⊎◌, ℕ, List, [], ◌∷◌, ◌++◌, Bool, true, false, cond, inl, inr, ⊎_elim, refl, sym, ap, subst, ◌∙◌, arith}
use Rattle.std.proofs.lemmas.Bool.{and_from, and_parts, or_cases, not-true, not_from_false}
use Rattle.std.proofs.lemmas.List.Sorted.{IsPermutation-refl, IsPermutation-cons, IsPermutation-trans}
use Rattle.std.specs.Prelude.{◌||◌, ◌&&◌, not}
use Rattle.std.specs.List.Sorted.{IsPermutation}
use Rattle.fsfs_folders.specs.System.Paths.{has_path}
use Rattle.fsfs_folders.specs.System.Listing.{are_apart}
use Rattle.fsfs_folders.proofs.PathLemmas.{has_head, has_tail}
use Rattle.fsfs_folders.specs.SameText.{text_cases}
use Rattle.fsfs_base.specs.Files.{same_text}

-- the list without a text, where it comes first
abbrev pub erase : List (List ℕ) → List ℕ → List (List ℕ)
erase [] q = []
erase (p ∷ ps) q = cond (same_text q p) ps (p ∷ erase ps q)

none_from_head : (q p : List ℕ) (ps : List (List ℕ)) → same_text q p ≡ false → has_path (p ∷ ps) q ≡ has_path ps q
none_from_head q p ps other = ap (λ b. b || has_path ps q) other

pub erased_other : (ps : List (List ℕ)) (q x : List ℕ) → same_text x q ≡ false → has_path (erase ps q) x ≡ has_path ps x
erased_other [] q x other = refl
erased_other (p ∷ ps) q x other =
    ⊎_elim
    (λ s. ap (λ b. has_path (cond b ps (p ∷ erase ps q)) x) s.1 ∙ sym (none_from_head x p ps (ap (λ y. same_text x y) (sym s.0) ∙ other)))
    (λ o. ap (λ b. has_path (cond b ps (p ∷ erase ps q)) x) o.1 ∙ ap (λ b. same_text x p || b) (erased_other ps q x other)) (text_cases q p)

pub erased_itself : (ps : List (List ℕ)) (q : List ℕ) → are_apart ps ≡ true → has_path (erase ps q) q ≡ false
erased_itself [] q apart = refl
erased_itself (p ∷ ps) q apart =
    let parts : (not (has_path ps p) ≡ true) × (are_apart ps ≡ true) = and_parts (not (has_path ps p)) (are_apart ps) apart in
    ⊎_elim
    (λ s. ap (λ b. has_path (cond b ps (p ∷ erase ps q)) q) s.1 ∙ ap (λ y. has_path ps y) s.0 ∙ not-true (has_path ps p) parts.0)
    (λ o. ap (λ b. has_path (cond b ps (p ∷ erase ps q)) q) o.1 ∙ none_from_head q p (erase ps q) o.1 ∙ erased_itself ps q parts.1) (text_cases q p)

pub erased_apart : (ps : List (List ℕ)) (q : List ℕ) → are_apart ps ≡ true → are_apart (erase ps q) ≡ true
erased_apart [] q apart = refl
erased_apart (p ∷ ps) q apart =
    let parts : (not (has_path ps p) ≡ true) × (are_apart ps ≡ true) = and_parts (not (has_path ps p)) (are_apart ps) apart in
    ⊎_elim (λ s. ap (λ b. are_apart (cond b ps (p ∷ erase ps q))) s.1 ∙ parts.1)
    (λ o. ap (λ b. are_apart (cond b ps (p ∷ erase ps q))) o.1
    ∙ and_from (not (has_path (erase ps q) p)) (are_apart (erase ps q)) (ap not (erased_other ps q p (turned q p o.0)) ∙ parts.0) (erased_apart ps q parts.1)) (text_cases q p)
  where
    turned : (a b : List ℕ) → (a ≡ b → ⊥) → same_text b a ≡ false
    turned a b other = ⊎_elim (λ s. absurd (other (sym s.0))) (λ o. o.1) (text_cases b a)

-- a text goes to the front
pub in_front : (ps : List (List ℕ)) (q : List ℕ) → has_path ps q ≡ true → IsPermutation (q ∷ erase ps q) ps
in_front [] q has = let h : false ≡ true = has in cc
in_front (p ∷ ps) q has =
    ⊎_elim
    (λ s. subst (λ (l : List (List ℕ)). IsPermutation (q ∷ l) (p ∷ ps)) (sym (ap (λ b. cond b ps (p ∷ erase ps q)) s.1))
    (subst (λ y. IsPermutation (q ∷ ps) (y ∷ ps)) s.0 (IsPermutation-refl (q ∷ ps))))
    (λ o. subst (λ (l : List (List ℕ)). IsPermutation (q ∷ l) (p ∷ ps)) (sym (ap (λ b. cond b ps (p ∷ erase ps q)) o.1))
    (IsPermutation-trans (q ∷ p ∷ erase ps q) (p ∷ q ∷ erase ps q) (p ∷ ps) (two q p (erase ps q))
    (IsPermutation-cons p (q ∷ erase ps q) ps (in_front ps q (sym (none_from_head q p ps o.1) ∙ has))))) (text_cases q p)
  where
    two : (a b : List ℕ) (l : List (List ℕ)) → IsPermutation (a ∷ b ∷ l) (b ∷ a ∷ l)
    two a b l = record { moves = (0, 1) ∷ []; below = (omega arith, omega arith, tt); is = refl }

pub permuted : (xs ys : List (List ℕ)) → are_apart xs ≡ true → are_apart ys ≡ true → ((q : List ℕ) → has_path xs q ≡ true → has_path ys q ≡ true) → ((q : List ℕ) → has_path ys q ≡ true → has_path xs q ≡ true) → IsPermutation xs ys
permuted [] ys apart_x apart_y to from = none ys from
  where
    none : (ys : List (List ℕ)) → ((q : List ℕ) → has_path ys q ≡ true → has_path [] q ≡ true) → IsPermutation [] ys
    none [] from = IsPermutation-refl []
    none (y ∷ ys) from = let h : false ≡ true = from y (has_head y ys) in cc
permuted (x ∷ xs) ys apart_x apart_y to from =
    let parts : (not (has_path xs x) ≡ true) × (are_apart xs ≡ true) = and_parts (not (has_path xs x)) (are_apart xs) apart_x in
    let has : has_path ys x ≡ true = to x (has_head x xs) in
    IsPermutation-trans (x ∷ xs) (x ∷ erase ys x) ys
    (IsPermutation-cons x xs (erase ys x) (permuted xs (erase ys x) parts.1 (erased_apart ys x apart_y)
    (λ q h. ⊎_elim (λ s. let no_x : true ≡ false = sym (ap (λ y. has_path xs y) (sym s.0) ∙ h) ∙ not-true (has_path xs x) parts.0 in cc)
    (λ o. erased_other ys x q o.1 ∙ to q (has_tail x q xs h)) (text_cases q x))
    (λ q h. ⊎_elim (λ s. let no_x : true ≡ false = sym (ap (λ y. has_path (erase ys x) y) (sym s.0) ∙ h) ∙ erased_itself ys x apart_y in cc)
    (λ o. sym (none_from_head q x xs o.1) ∙ from q (sym (erased_other ys x q o.1) ∙ h)) (text_cases q x))))
    (in_front ys x has)
