-- A line at the beginning of a window, and at an offset in the bytes.
use Rattle.std.proofs.Common.{◌≡◌, ℕ, suc, ◌+◌, ◌^◌, ◌<◌, ◌≤◌, List, [], ◌∷◌, ◌++◌, length, take, drop, Result, Ok, Err, refl, sym, ap, subst, ◌∙◌, arith, inl, inr, lit<, lit≤}
use Rattle.std.proofs.lemmas.List.{length-append, length-take, take-append-drop, take-take, length-drop}
use Rattle.std.specs.Fmt.{decimal}
use Rattle.std.proofs.Math.Seq.{take-append_seam}
use Rattle.std.proofs.lemmas.Fmt.{length-decimal-le}
use Rattle.std.specs.Prelude.{codes}
use Rattle.fsfs_base.specs.Grammar.Relations.{begins}
use Rattle.fsfs_base.specs.Grammar.Numeral.{IsNumber}
use Rattle.fsfs_base.specs.Grammar.Reading.{text_at}
use Rattle.fsfs_base.proofs.Readers.{Reads, next_reads, mapped_reads, either_reads, text_reads}
use Rattle.fsfs_base.proofs.Numerals.{number_reads}
use Rattle.fsfs_base.proofs.Unique.{numeral_decimal}
use Rattle.fsfs_base.specs.Fields.RevNums.{last_rev}
use Rattle.fsfs_revision.specs.Rep.Headers.{StandsAt, IsBaseLine, IsDeltaLine, HasPlainLine, HasDeltaLine, plain_line, base_line_at, delta_line_at}

base_line_reads : (n : ℕ) → Reads n IsBaseLine base_line_at
base_line_reads =
    next_reads (text_reads (32 ∷ [])) (λ _. next_reads (λ k. number_reads 10 last_rev 32 k (omega arith) (omega arith))
    (λ _. next_reads (λ k. number_reads 10 18446744073709551615 32 k (omega arith) (omega arith))
    (λ _ k. mapped_reads (λ (_ : ℕ). let u : Unit {0} = tt in u) (number_reads 10 18446744073709551615 10 k (omega arith) (omega arith)))))

pub delta_line_reads : (n : ℕ) → Reads n IsDeltaLine delta_line_at
unfolding delta_line_at
delta_line_reads = next_reads (text_reads (codes "DELTA")) (λ _ n. either_reads 10
    (λ t x e. ap (begins 10) e)
    (λ t x w. (32, w.second, w.parts ∙ ap (λ (f : List ℕ). f ++ w.second) w.first_is, refl))
    (text_reads (10 ∷ []) n) (base_line_reads n))

module _ {G : List ℕ → Unit {0} → Type 0} {r : List ℕ → Result (Unit {0} × List ℕ) ℕ} (reads : (n : ℕ) → Reads n G r) where
  pub stands_found : (bytes rest : List ℕ) → r bytes ≡ Ok (tt, rest) → (line : List ℕ) × G line tt × StandsAt line 0 bytes
  stands_found bytes rest e =
      let w = (reads (suc (length bytes))).found bytes tt rest (omega arith) e in
      (w.front, w.text, ap (take (length w.front)) w.parts ∙ take-append_seam w.front rest)

  pub stands_not : (bytes : List ℕ) (left : ℕ) → r bytes ≡ Err left → (line : List ℕ) → G line tt → StandsAt line 0 bytes → ⊥
  stands_not bytes left e line g stands =
      let rest : List ℕ = drop (length line) bytes in
      let parts : bytes ≡ line ++ rest = sym (take-append-drop (length line) bytes) ∙ ap (λ (t : List ℕ). t ++ rest) stands in
      let one : r (line ++ rest) ≡ Ok (tt, rest) = (reads (suc (length (line ++ rest)))).again line tt rest (omega arith) g in
      let two : r bytes ≡ Ok (tt, rest) = ap r parts ∙ one in
      cc

pub plain_found : (bytes rest : List ℕ) → text_at plain_line bytes ≡ Ok (tt, rest) → HasPlainLine 0 bytes
plain_found bytes rest e = let w = stands_found (text_reads plain_line) bytes rest e in subst (λ (line : List ℕ). StandsAt line 0 bytes) w.1 w.2

pub plain_not : (bytes : List ℕ) (left : ℕ) → text_at plain_line bytes ≡ Err left → HasPlainLine 0 bytes → ⊥
plain_not bytes left e stands = stands_not (text_reads plain_line) bytes left e plain_line refl stands

pub delta_found : (bytes rest : List ℕ) → delta_line_at bytes ≡ Ok (tt, rest) → HasDeltaLine 0 bytes
delta_found bytes rest e = let w = stands_found delta_line_reads bytes rest e in record { line = w.0; line_is = w.1; stands = w.2 }

pub delta_not : (bytes : List ℕ) (left : ℕ) → delta_line_at bytes ≡ Err left → HasDeltaLine 0 bytes → ⊥
delta_not bytes left e w = stands_not delta_line_reads bytes left e w.line w.line_is w.stands

-- ---- the window and the bytes

-- what stands at the beginning of a window stands in the bytes
pub stands_in : (n : ℕ) (line : List ℕ) (offset : ℕ) (bytes : List ℕ) → StandsAt line 0 (take n (drop offset bytes)) → StandsAt line offset bytes
stands_in n line offset bytes stands =
    let size : length line ≤ n = omega (arith, ap length stands, length-take (length line) (take n (drop offset bytes)), length-take n (drop offset bytes)) in
    sym (take-take (length line) n (drop offset bytes) size) ∙ stands

-- and a line that is no longer than the window
pub stands_within : (n : ℕ) (line : List ℕ) (offset : ℕ) (bytes : List ℕ) → length line ≤ n → StandsAt line offset bytes → StandsAt line 0 (take n (drop offset bytes))
stands_within n line offset bytes size stands = take-take (length line) n (drop offset bytes) size ∙ stands

number_short : (limit end k : ℕ) (text : List ℕ) (n : ℕ) → 0 < k → limit < 10 ^ k → limit < 2 ^ 64 → IsNumber 10 limit end text n → length text ≤ k + 1
number_short limit end k text n some fits small w =
    let value : n < 2 ^ 64 = omega (arith, w.fits) in
    let digits : w.digits ≡ decimal n = numeral_decimal w.digits n value w.numeral in
    let count : length (decimal n) ≤ k = length-decimal-le k n some (omega (arith, w.fits)) value in
    omega (arith, ap length w.parts, length-append w.digits (end ∷ []), ap length digits)

base_line_short : (line : List ℕ) → IsBaseLine line tt → length line ≤ 54
base_line_short line w =
    let rev = w.second_is in
    let offset = rev.second_is in
    let last = offset.second_is in
    omega (
      arith,
      ap length w.parts,
      length-append w.first w.second,
      ap length w.first_is,
      ap length rev.parts,
      length-append rev.first rev.second,
      number_short last_rev 32 10 rev.first rev.between (lit< tt) (lit< tt) (lit< tt) rev.first_is,
      ap length offset.parts,
      length-append offset.first offset.second,
      number_short 18446744073709551615 32 20 offset.first offset.between (lit< tt) (lit< tt) (lit< tt) offset.first_is,
      number_short 18446744073709551615 10 20 offset.second last.inner (lit< tt) (lit< tt) (lit< tt) last.inner_is,
    )

delta_line_short : (line : List ℕ) → IsDeltaLine line tt → length line ≤ 64
delta_line_short line w =
    let size : length line ≡ 5 + length w.second = ap length w.parts ∙ length-append w.first w.second ∙ ap (λ (t : List ℕ). length t + length w.second) w.first_is in
    elim w.second_is [
      | inl e ↦ omega (arith, size, ap length e)
      | inr base ↦ omega (arith, size, base_line_short w.second base)
    ]

pub plain_in : (offset : ℕ) (bytes : List ℕ) → HasPlainLine 0 (take 64 (drop offset bytes)) → HasPlainLine offset bytes
plain_in offset bytes h = stands_in 64 plain_line offset bytes h

pub plain_within : (offset : ℕ) (bytes : List ℕ) → HasPlainLine offset bytes → HasPlainLine 0 (take 64 (drop offset bytes))
plain_within offset bytes h = stands_within 64 plain_line offset bytes (lit≤ tt) h

pub delta_in : (offset : ℕ) (bytes : List ℕ) → HasDeltaLine 0 (take 64 (drop offset bytes)) → HasDeltaLine offset bytes
delta_in offset bytes h = record { line = h.line; line_is = h.line_is; stands = stands_in 64 h.line offset bytes h.stands }

pub delta_within : (offset : ℕ) (bytes : List ℕ) → HasDeltaLine offset bytes → HasDeltaLine 0 (take 64 (drop offset bytes))
delta_within offset bytes h = record { line = h.line; line_is = h.line_is; stands = stands_within 64 h.line offset bytes (delta_line_short h.line h.line_is) h.stands }

-- a header seen in a window is that of the bytes
module _ (seen : List ℕ) (offset : ℕ) (bytes : List ℕ) (window : seen ≡ take 64 (drop offset bytes)) where
  pub plain_seen : HasPlainLine 0 seen → HasPlainLine offset bytes
  plain_seen h = plain_in offset bytes (subst (λ (w : List ℕ). HasPlainLine 0 w) window h)

  pub delta_seen : HasDeltaLine 0 seen → HasDeltaLine offset bytes
  delta_seen h = delta_in offset bytes (subst (λ (w : List ℕ). HasDeltaLine 0 w) window h)

  pub other_seen : (¬ HasPlainLine 0 seen) × (¬ HasDeltaLine 0 seen) → (¬ HasPlainLine offset bytes) × (¬ HasDeltaLine offset bytes)
  other_seen h = (
    λ plain. h.0 (subst (λ (w : List ℕ). HasPlainLine 0 w) (sym window) (plain_within offset bytes plain)),
    λ delta. h.1 (subst (λ (w : List ℕ). HasDeltaLine 0 w) (sym window) (delta_within offset bytes delta)),
  )

-- a text that stands somewhere ends within the bytes
pub stands_fits : (line : List ℕ) (offset : ℕ) (bytes : List ℕ) → 0 < length line → StandsAt line offset bytes → offset + length line ≤ length bytes
stands_fits line offset bytes some stands = omega (arith, ap length stands, length-take (length line) (drop offset bytes), length-drop offset bytes)

-- ---- no line is both

pub head_same : (a b : ℕ) (s t : List ℕ) → a ∷ s ≡ b ∷ t → a ≡ b
head_same a b s t e = cc

begins_two : (bytes line rest : List ℕ) → take 6 bytes ≡ codes "PLAIN\n" → take (length line) bytes ≡ line → line ≡ 68 ∷ rest → ⊥
begins_two [] line rest plain stands is = absurd cc
begins_two (c ∷ bytes) line rest plain stands is =
    let d : take (length (68 ∷ rest)) (c ∷ bytes) ≡ 68 ∷ rest = subst (λ (l : List ℕ). take (length l) (c ∷ bytes) ≡ l) is stands in
    let first = head_same c 68 (take (length rest) bytes) rest d in
    let other = head_same c 80 (take 5 bytes) (codes "LAIN\n") plain in
    omega (arith, first, other)

pub plain_or_delta : (offset : ℕ) (bytes : List ℕ) → HasPlainLine offset bytes → HasDeltaLine offset bytes → ⊥
plain_or_delta offset bytes plain delta =
    let w = delta.line_is in
    let e : delta.line ≡ codes "DELTA" ++ w.second = w.parts ∙ ap (λ (f : List ℕ). f ++ w.second) w.first_is in
    begins_two (drop offset bytes) delta.line (69 ∷ 76 ∷ 84 ∷ 65 ∷ w.second) plain delta.stands e
