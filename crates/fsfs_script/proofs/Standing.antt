-- Texts that stand at places, one behind another.
use Rattle.std.proofs.Common.{◌≡◌, ◌+◌, ℕ, List, [], ◌∷◌, ◌++◌, refl, sym, ap, ◌∙◌, append_assoc, arith}
use Rattle.fsfs_base.specs.Grammar.Cuts.{Lacks}
use Rattle.fsfs_script.specs.Places.{Place, newlines}
use Rattle.fsfs_script.specs.JobTexts.{Stands}
use Rattle.fsfs_script.proofs.PlaceLemmas.{newlines-append, newlines_lacking}

pub stands_more : (p q r : Place) (s t : List ℕ) → Stands p s q → Stands q t r → Stands p (s ++ t) r
stands_more p q r s t v w = record {
  bytes = v.bytes ∙ ap (λ (x : List ℕ). s ++ x) w.bytes ∙ sym (append_assoc s t r.bytes);
  line = omega (arith, v.line, w.line, newlines-append s t);
}

-- the place between two texts
abbrev pub between : Place → List ℕ → List ℕ → Place → Place
between p s t r = record { line = p.line + newlines s; bytes = t ++ r.bytes }

pub stands_first : (p r : Place) (s t : List ℕ) → Stands p (s ++ t) r → Stands p s (between p s t r)
stands_first p r s t w = record { bytes = w.bytes ∙ append_assoc s t r.bytes; line = refl }

pub stands_second : (p r : Place) (s t : List ℕ) → Stands p (s ++ t) r → Stands (between p s t r) t r
stands_second p r s t w = record { bytes = refl; line = omega (arith, w.line, newlines-append s t) }

pub stands_nothing : (p q : Place) → Stands p [] q → p ≡ q
stands_nothing p q w = let line : p.line ≡ q.line = omega (arith, w.line) in λ i. record { line = line i; bytes = w.bytes i }

pub nothing_stands : (p : Place) → Stands p [] p
nothing_stands p = record { bytes = refl; line = omega arith }

-- a text without newlines, and one behind it
pub newlines_line : (line : List ℕ) → Lacks 10 line → newlines (line ++ 10 ∷ []) ≡ 1
newlines_line line lacks =
    let one : newlines (10 ∷ []) ≡ 1 = refl in
    omega (arith, newlines-append line (10 ∷ []), newlines_lacking line lacks, one)

pub newlines_text : (text : List ℕ) → newlines (text ++ 10 ∷ []) ≡ newlines text + 1
newlines_text text =
    let one : newlines (10 ∷ []) ≡ 1 = refl in
    omega (arith, newlines-append text (10 ∷ []), one)
