-- Texts that are written at the end, part by part.
use Rattle.std.proofs.Common.{◌≡◌, ℕ, ◌≤◌, List, [], ◌∷◌, ◌++◌, ap, ◌∙◌, append_assoc, refl}
use Rattle.fsfs_base.specs.Grammar.Relations.{Appends}
use Rattle.fsfs_base.specs.Grammar.Numeral.{IsPlain, AppendsNumeral}
use Rattle.fsfs_base.specs.Grammar.Cuts.{IsCutOf}

-- a text of G, a byte, and a text of H
pub appends_cut : {X Y : Type 0} {G : List ℕ → X → Type 0} {H : List ℕ → Y → Type 0} {a b c d : List ℕ} {x : X} {y : Y} (sep : ℕ)
    → Appends G a b x → c ≡ b ++ sep ∷ [] → Appends H c d y → Appends (IsCutOf sep G H) a d (x, y)
appends_cut {X} {Y} {G} {H} {a} {b} {c} {d} {x} {y} sep first middle second =
    let one : d ≡ (b ++ sep ∷ []) ++ second.text = second.parts ∙ ap (λ (t : List ℕ). t ++ second.text) middle in
    let two : d ≡ ((a ++ first.text) ++ sep ∷ []) ++ second.text = one ∙ ap (λ (t : List ℕ). (t ++ sep ∷ []) ++ second.text) first.parts in
    record { text = first.text ++ sep ∷ second.text; text_is = (first.text, second.text, first.text_is, second.text_is, refl); parts = two ∙ simp append_assoc }

-- the same text by another grammar
pub appends_as : {X Y : Type 0} {G : List ℕ → X → Type 0} {H : List ℕ → Y → Type 0} {a b : List ℕ} {x : X} {y : Y} → Appends G a b x → ((t : List ℕ) → G t x → H t y) → Appends H a b y
appends_as w is = record { text = w.text; text_is = is w.text w.text_is; parts = w.parts }

-- a byte that marks what follows
pub appends_marked : {X Y : Type 0} {G : List ℕ → X → Type 0} {H : List ℕ → Y → Type 0} {a b c : List ℕ} {x : X} {y : Y} (mark : ℕ) → b ≡ a ++ mark ∷ [] → Appends G b c x → ((t : List ℕ) → G t x → H (mark ∷ t) y) → Appends H a c y
appends_marked {X} {Y} {G} {H} {a} {b} {c} mark first w is =
    record { text = mark ∷ w.text; text_is = is w.text w.text_is; parts = w.parts ∙ ap (λ (t : List ℕ). t ++ w.text) first ∙ append_assoc a (mark ∷ []) w.text }

pub appends_plain : {a b : List ℕ} (base limit n : ℕ) → n ≤ limit → AppendsNumeral base a b n → Appends (IsPlain base limit) a b n
appends_plain base limit n fits w = record { text = w.digits; text_is = (w.numeral, fits); parts = w.parts }
