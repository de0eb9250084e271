-- Paths without a slash in a name are told apart by their names, each with a slash before it.
use Rattle.std.proofs.Common.{◌≡◌, ℕ, zero, suc, ◌+◌, ◌<◌, true, eqb, List, [], ◌∷◌, ◌++◌, map, take, length, get_or, Global, append_assoc, append-nil, arith, refl, sym, ap, subst, ◌∙◌, inl, inr, ◌⊎◌}
use Rattle.std.proofs.lemmas.Bool.{both_ways, cases_Bool, false_from_ne_true, eqb-true, eqb-false}
use Rattle.std.specs.Prelude.{String}
use Rattle.std.specs.String.{string_bytes}
use Rattle.std.proofs.lemmas.List.{take_more}
use Rattle.std.proofs.lemmas.Slice.Eq.{bytes_eq-Decides}
use Rattle.std.specs.List.{AllByRecursion}
use Rattle.std.specs.Str.{bytes_eq}
use Rattle.std.specs.Ordering.{nat_cmp}
use Rattle.std.specs.declared.cmp.Ordering.TheVariants.{Less}
use Rattle.std.specs.Cmp.Lexicographic.{slice_cmp}
use Rattle.fsfs_base.specs.Paths.{Path, PathName, same_path, names_text, path_text}
use Rattle.fsfs_base.specs.PathTexts.{HasNoSlash, IsPath}
use Rattle.fsfs_base.proofs.PathLemmas.{same_path-is, same_path-refl}
use Rattle.fsfs_base.proofs.PathTextLemmas.{names_text_injective, names_text-append}

abbrev pub IsWhole : Path → Type 0
IsWhole = AllByRecursion HasNoSlash

pub same_key : (a b : Path) → IsWhole a → IsWhole b → bytes_eq (names_text a) (names_text b) ≡ same_path a b
same_key a b v w = elim (cases_Bool (same_path a b)) [
  | inl e ↦ (bytes_eq-Decides (names_text a) (names_text b)).1 (ap names_text (same_path-is a b e)) ∙ sym e
  | inr n ↦ false_from_ne_true _ (λ h. both_ways _ n (equal (names_text_injective a b v w ((bytes_eq-Decides (names_text a) (names_text b)).0 h)))) ∙ sym n
]
  where
    equal : a ≡ b → same_path a b ≡ true
    equal e = subst (λ (p : Path). same_path a p ≡ true) e (same_path-refl a)

name_whole : (x : PathName) → HasNoSlash x ⊎ (HasNoSlash x → ⊥)
name_whole [] = inl tt
name_whole (c ∷ x) = elim (cases_Bool (eqb c 47)) [
  | inl e ↦ inr (λ h. h.0 (eqb-true c 47 e))
  | inr n ↦ elim (name_whole x) [
    | inl w ↦ inl (eqb-false c 47 n, w)
    | inr w ↦ inr (λ h. w h.1)
  ]
]

pub whole_or_not : (p : Path) → IsWhole p ⊎ (IsWhole p → ⊥)
whole_or_not [] = inl tt
whole_or_not (x ∷ p) = elim (name_whole x) [
  | inr n ↦ inr (λ h. n h.0)
  | inl v ↦ elim (whole_or_not p) [
    | inl w ↦ inl (v, w)
    | inr w ↦ inr (λ h. w h.1)
  ]
]

pub whole_prefix : (k : ℕ) (p : Path) → IsWhole p → IsWhole (take k p)
whole_prefix zero p w = tt
whole_prefix (suc k) [] w = tt
whole_prefix (suc k) (x ∷ p) w = (w.0, whole_prefix k p w.1)

-- what comes first by keys comes first by texts: the root has no name, and its text is `/`
pub text_less : (a b : Path) → IsPath a → IsPath b → slice_cmp nat_cmp (names_text a) (names_text b) ≡ Less → slice_cmp nat_cmp (path_text a) (path_text b) ≡ Less
text_less [] [] v w e = absurd cc
text_less [] ([] ∷ b) v w e = absurd (w.names.0.some refl)
text_less [] ((c ∷ y) ∷ b) v w e = refl
text_less (x ∷ a) [] v w e = absurd cc
text_less (x ∷ a) (y ∷ b) v w e = e

-- ---- a key as it is written

-- the name that a loop over the names comes to
pub name_at : (names : List (String Global)) (k : ℕ) (x : String Global) → k < length names → x ≡ get_or names k x → string_bytes x ≡ get_or (map string_bytes names) k []
name_at [] k x lt e = absurd (omega arith)
name_at (y ∷ ys) zero x lt e = ap string_bytes e
name_at (y ∷ ys) (suc k) x lt e = name_at ys k x (omega arith) e

names_more : (p : Path) (k : ℕ) → k < length p → names_text (take (k + 1) p) ≡ names_text (take k p) ++ 47 ∷ get_or p k []
names_more p k lt =
    ap names_text (take_more p k [] lt)
    ∙ names_text-append (take k p) (get_or p k [] ∷ [])
    ∙ ap (λ (t : List ℕ). names_text (take k p) ++ 47 ∷ t) (append-nil (get_or p k []))

-- a slash and a name more
pub key_more : (p : Path) (k : ℕ) (old mid new name : List ℕ) → k < length p → old ≡ names_text (take k p) → mid ≡ old ++ 47 ∷ [] → new ≡ mid ++ name → name ≡ get_or p k [] → new ≡ names_text (take (k + 1) p)
key_more p k old mid new name lt was slash more is =
    more
    ∙ (λ i. slash i ++ is i)
    ∙ append_assoc old (47 ∷ []) (get_or p k [])
    ∙ ap (λ (t : List ℕ). t ++ 47 ∷ get_or p k []) was
    ∙ sym (names_more p k lt)
