-- A text cut in two at a byte.
use Rattle.std.specs.Prelude.{◌≡◌, ℕ, List, [], ◌∷◌, ◌++◌, Option, Some, None, ◌==◌, not, if◌then◌else◌, false}
use Rattle.std.specs.List.{AllByRecursion, prefix_len}

-- no byte of the text is c
abbrev pub Lacks : ℕ → List ℕ → Type 0
Lacks c text = AllByRecursion (λ b. (b == c) ≡ false) text

-- a text of G, the byte c, and a text of H
abbrev pub IsCutOf : {X Y : Type 0} → ℕ → (List ℕ → X → Type 0) → (List ℕ → Y → Type 0) → List ℕ → X × Y → Type 0
IsCutOf c G H text p = (a b : List ℕ) × G a p.0 × H b p.1 × (text ≡ a ++ c ∷ b)

-- reading: what stands before the first c, and behind it
abbrev pub cut_on : List ℕ → Option (List ℕ × List ℕ) → Option (List ℕ × List ℕ)
cut_on front None = None
cut_on front (Some p) = Some (front ++ p.0, p.1)

abbrev pub cut : ℕ → List ℕ → Option (List ℕ × List ℕ)
cut c [] = None
cut c (b ∷ bs) = if b == c then Some ([], bs) else cut_on (b ∷ []) (cut c bs)

abbrev pub and_then : {A B : Type 0} → Option A → (A → Option B) → Option B
and_then None f = None
and_then (Some x) f = f x

-- both parts of a text that is cut at c
abbrev pub parts_at : {X Y : Type 0} → ℕ → (List ℕ → Option X) → (List ℕ → Option Y) → List ℕ → Option (X × Y)
parts_at c r s text = and_then (cut c text) (λ p. and_then (r p.0) (λ x. and_then (s p.1) (λ y. Some (x, y))))

-- how many bytes stand before the first c
abbrev pub before : ℕ → List ℕ → ℕ
before c text = prefix_len (λ b. not (b == c)) text
