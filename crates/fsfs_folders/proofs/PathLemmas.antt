-- When two paths are the same, and which folder a path stands in.
use Rattle.std.proofs.Common.{◌≡◌, ◌⊎◌, ℕ, suc, get_or, List, [], ◌∷◌, Bool, true, false, inl, inr, ⊎_elim, refl, sym, ap, ◌∙◌, arith}
use Rattle.std.proofs.lemmas.Bool.{cases_Bool, ne_eqb}
use Rattle.std.proofs.lemmas.List.{take-append-drop}
use Rattle.std.proofs.lemmas.Str.Pattern.{NoCharPasses-char, drop_at_char}
use Rattle.std.specs.Prelude.{◌||◌, ◌==◌, ◌++◌, ◌≤◌, ◌<◌, if◌then◌else◌, length, take, drop}
use Rattle.std.specs.Str.{NoCharPasses}
use Rattle.std.specs.Str.Pattern.{HasCharAt}
use Rattle.std.specs.declared.cmp.Ordering.TheVariants.{Less, Equal, Greater}
use Rattle.std.specs.Ordering.{nat_cmp, is_eq}
use Rattle.std.specs.Cmp.{tied_itself}
use Rattle.std.specs.Cmp.Lexicographic.{slice_cmp, nat_list_cmp_total}
use Rattle.std.specs.FinMap.{slice_cmp-IsAntisymmetric, nat_cmp-IsAntisymmetric}
use Rattle.fsfs_base.proofs.FileLemmas.{apart_by}
use Rattle.fsfs_base.specs.Files.{same_text}
use Rattle.fsfs_folders.specs.System.Paths.{has_path, has_slash, before_slash}
use Rattle.fsfs_folders.specs.SameText.{text_cases}

pub same_itself : (p : List ℕ) → same_text p p ≡ true
same_itself p = ap is_eq (tied_itself nat_list_cmp_total p)

pub or_right : (x y : Bool) → y ≡ true → (x || y) ≡ true
or_right true y e = refl
or_right false y e = e

pub has_head : (p : List ℕ) (ps : List (List ℕ)) → has_path (p ∷ ps) p ≡ true
has_head p ps = ap (λ b. b || has_path ps p) (same_itself p)

pub has_tail : (p q : List ℕ) (ps : List (List ℕ)) → has_path ps q ≡ true → has_path (p ∷ ps) q ≡ true
has_tail p q ps e = or_right (same_text q p) (has_path ps q) e

pub slash_within : (a b : List ℕ) → has_slash (a ++ 47 ∷ b) ≡ true
slash_within [] b = refl
slash_within (c ∷ a) b = or_right (c == 47) (has_slash (a ++ 47 ∷ b)) (slash_within a b)

before_last : (a b : List ℕ) → has_slash b ≡ false → before_slash (a ++ 47 ∷ b) ≡ a
before_last [] b e = ap (λ t. if t then 47 ∷ before_slash b else []) e
before_last (c ∷ a) b e = ap (λ t. if t then c ∷ before_slash (a ++ 47 ∷ b) else []) (slash_within a b) ∙ ap (λ x. c ∷ x) (before_last a b e)

before_none : (p : List ℕ) → has_slash p ≡ false → before_slash p ≡ []
before_none [] e = refl
before_none (c ∷ cs) e = ap (λ t. if t then c ∷ before_slash cs else []) (no_tail (c == 47) (has_slash cs) e)
  where
    no_tail : (x y : Bool) → (x || y) ≡ false → y ≡ false
    no_tail true y e = cc
    no_tail false y e = e

pub lacks_slash : (bs : List ℕ) → ((i : ℕ) → i < length bs → get_or bs i 0 ≡ 47 → ⊥) → has_slash bs ≡ false
lacks_slash [] h = refl
lacks_slash (c ∷ cs) h =
    ap (λ b. b || has_slash cs) (ne_eqb c 47 (λ e. h 0 (omega arith) e)) ∙ lacks_slash cs (λ i lt e. h (suc i) (omega (arith, lt)) e)

-- the folder of a text that is split at its last slash
pub before_at : (text front : List ℕ) (i j : ℕ) → NoCharPasses (λ d. d == 47) (drop j text) → HasCharAt 47 text i j → front ≡ take i text → front ≡ before_slash text
before_at text front i j lacks at is =
    let split : take i text ++ 47 ∷ drop j text ≡ text = ap (λ (r : List ℕ). take i text ++ r) (sym (drop_at_char 47 text i j at (omega arith))) ∙ take-append-drop i text in
    is ∙ sym (before_last (take i text) (drop j text) (lacks_slash (drop j text) (λ k lt e. NoCharPasses-char 47 (drop j text) k lacks (omega arith) lt e))) ∙ ap before_slash split

pub none_before : (text : List ℕ) → NoCharPasses (λ d. d == 47) text → before_slash text ≡ []
none_before text lacks = before_none text (lacks_slash text (λ k lt e. NoCharPasses-char 47 text k lacks (omega arith) lt e))

-- what stands before the last slash is no longer
pub before_short : (p : List ℕ) → length (before_slash p) ≤ length p
before_short [] = omega arith
before_short (c ∷ cs) = by_test (has_slash cs) (before_short cs)
  where
    by_test : (b : Bool) → length (before_slash cs) ≤ length cs → length (if b then c ∷ before_slash cs else []) ≤ length (c ∷ cs)
    by_test true le = omega (arith, le)
    by_test false le = omega arith
