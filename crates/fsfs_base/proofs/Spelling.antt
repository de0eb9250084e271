-- Texts that are read whole, to the value that they stand for.
use Rattle.std.proofs.Common.{◌≡◌, ℕ, ◌<◌, ◌≤◌, List, [], ◌∷◌, Option, Some, None, refl, sym, ap, subst, ◌∙◌, arith}
use Rattle.std.proofs.lemmas.Option.{same_Some}
use Rattle.std.specs.Prelude.{IfSome, IsSomeAnd, option_map}
use Rattle.std.specs.List.{AllByRecursion}
use Rattle.std.proofs.lemmas.Bool.{ne_eqb}
use Rattle.fsfs_base.specs.Grammar.Numeral.{digit, IsPlain, numeral_at}
use Rattle.fsfs_base.specs.Grammar.Cuts.{Lacks, IsCutOf, cut, and_then, parts_at}
use Rattle.fsfs_base.proofs.Numerals.{numeral_found, numeral_again}
use Rattle.fsfs_base.proofs.CutLemmas.{cut_found, cut_again}

-- r reads just the texts of G
pub record Spells {X : Type 0} (G : List ℕ → X → Type 0) (r : List ℕ → Option X) : Type 0 where
  pub found : (text : List ℕ) (x : X) → r text ≡ Some x → G text x
  pub again : (text : List ℕ) (x : X) → G text x → r text ≡ Some x

-- the value of the first step, and of the second
pub bound : {A B : Type 0} (o : Option A) (f : A → Option B) (y : B) → and_then o f ≡ Some y → (x : A) × (o ≡ Some x) × (f x ≡ Some y)
bound None f y e = absurd cc
bound (Some x) f y e = (x, refl, e)

pub numeral_spells : (base limit : ℕ) → 1 ≤ base → Spells (IsPlain base limit) (numeral_at base limit)
numeral_spells base limit one = record { found = λ text x e. numeral_found base limit text x e; again = λ text x g. numeral_again base limit text x one g }

pub cut_spells : {X Y : Type 0} {G : List ℕ → X → Type 0} {H : List ℕ → Y → Type 0} {r : List ℕ → Option X} {s : List ℕ → Option Y} (c : ℕ) → ((t : List ℕ) (x : X) → G t x → Lacks c t) → Spells G r → Spells H s → Spells (IsCutOf c G H) (parts_at c r s)
cut_spells {X} {Y} {G} {H} {r} {s} c lacks first second = record {
  found = λ text p e.
      let a = bound (cut c text) (λ p. and_then (r p.0) (λ x. and_then (s p.1) (λ y. Some (x, y)))) p e in
      let b = bound (r a.0.0) (λ x. and_then (s a.0.1) (λ y. Some (x, y))) p a.2 in
      let d = bound (s a.0.1) (λ y. Some (b.0, y)) p b.2 in
      let w = cut_found c text a.0.0 a.0.1 a.1 in
      let q = same_Some {A = X × Y} (b.0, d.0) p d.2 in
      (a.0.0, a.0.1, subst (λ (z : X × Y). G a.0.0 z.0) q (first.found a.0.0 b.0 b.1), subst (λ (z : X × Y). H a.0.1 z.1) q (second.found a.0.1 d.0 d.1), w.parts);
  again = λ text p w.
      let e : cut c text ≡ Some (w.0, w.1) = ap (cut c) w.4 ∙ cut_again c w.0 w.1 (lacks w.0 p.0 w.2) in
      rw (e, first.again w.0 p.0 w.2, second.again w.1 p.1 w.3) refl;
}

-- ---- which bytes a part lacks

pub digits_lack : (base c : ℕ) → base ≤ digit c → (ds : List ℕ) → AllByRecursion (λ d. digit d < base) ds → Lacks c ds
digits_lack base c high [] all = tt
digits_lack base c high (d ∷ ds) all = (ne_eqb d c (λ s. omega (arith, ap digit s, high, all.0)), digits_lack base c high ds all.1)

pub plain_lacks : (base limit c : ℕ) → base ≤ digit c → (t : List ℕ) (n : ℕ) → IsPlain base limit t n → Lacks c t
plain_lacks base limit c high [] n w = tt
plain_lacks base limit c high (d ∷ ds) n w = digits_lack base c high (d ∷ ds) w.0.0

-- ---- a reader of values that are seen through a view

-- what a reader gave is in the grammar, and what is in the grammar is given
pub spelled : {X Y : Type 0} {G : List ℕ → Y → Type 0} {r : List ℕ → Option Y} (view : X → Y) → Spells G r → (text : List ℕ) (o : Option X) → option_map view o ≡ r text → IfSome o (λ x. G text (view x))
spelled view spells text None e = tt
spelled view spells text (Some x) e = spells.found text (view x) (sym e)

pub spelled_only : {X Y : Type 0} {G : List ℕ → Y → Type 0} {r : List ℕ → Option Y} (view : X → Y) → Spells G r → (text : List ℕ) (o : Option X) → option_map view o ≡ r text → (y : Y) → G text y → IsSomeAnd o (λ x. view x ≡ y)
spelled_only view spells text None e y w = let f = e ∙ spells.again text y w in absurd cc
spelled_only view spells text (Some x) e y w = same_Some (view x) y (e ∙ spells.again text y w)

-- a reader by its clauses is the function
pub spelled_back : {X Y : Type 0} {G : List ℕ → Y → Type 0} {r : List ℕ → Option Y} (view : X → Y) → Spells G r → (text : List ℕ) (o : Option X)
    → IfSome o (λ x. G text (view x)) → ((y : Y) → G text y → IsSomeAnd o (λ x. view x ≡ y)) → option_map view o ≡ r text
spelled_back view spells text (Some x) found only = sym (spells.again text (view x) found)
spelled_back {X} {Y} {G} {r} view spells text None found only = go (r text) refl
  where
    go : (o : Option Y) → r text ≡ o → None ≡ r text
    go None e = sym e
    go (Some y) e = absurd (only y (spells.found text y e))

-- a text of G has one value at most
abbrev pub IsOne : {X : Type 0} → (List ℕ → X → Type 0) → Type 0
IsOne {X} G = (text : List ℕ) (a b : X) → G text a → G text b → a ≡ b

pub spells_one : {X : Type 0} {G : List ℕ → X → Type 0} {r : List ℕ → Option X} → Spells G r → IsOne G
spells_one spells text a b g h = same_Some a b (sym (spells.again text a g) ∙ spells.again text b h)
