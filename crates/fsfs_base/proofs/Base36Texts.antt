-- The text of a number in base 36 is its only one.
use Rattle.std.proofs.Common.{◌≡◌, ℕ, zero, suc, ◌+◌, ◌*◌, ◌/◌, ◌%◌, ◌^◌, ◌<◌, ◌≤◌, Bool, true, false, cond, eqb, List, [], ◌∷◌, ◌++◌, length, refl, ap, subst, ◌∙◌, arith}
use Rattle.std.specs.Coded.{le_prop}
use Rattle.std.proofs.lemmas.Bool.{eqb-true, eqb-false, eq-eqb}
use Rattle.std.proofs.lemmas.Bool.Decides.{nat_tests}
use Rattle.std.proofs.lemmas.List.{length-append}
use Rattle.fsfs_base.specs.declared.grammar.base36.B36.{B36}
use Rattle.fsfs_base.specs.Grammar.Numeral.{digit, IsNumeral, AppendsNumeral}
use Rattle.fsfs_base.specs.Grammar.Base36.{glyph, last_digits, base36}
use Rattle.fsfs_base.proofs.Numerals.{numeral_one, numeral_push}
use Rattle.fsfs_base.proofs.Unique.{numeral_same}

pub length-last_digits : (k n : ℕ) → length (last_digits k n) ≤ k
unfolding last_digits
length-last_digits zero n = omega arith
length-last_digits (suc k) n = go (length-last_digits k (n / 36)) (eqb (n / 36) 0)
  where
    go : length (last_digits k (n / 36)) ≤ k → (b : Bool) → length (cond b [] (last_digits k (n / 36)) ++ glyph (n % 36) ∷ []) ≤ suc k
    go less true = omega arith
    go less false = omega (arith, less, length-append (last_digits k (n / 36)) (glyph (n % 36) ∷ []))

digit_glyph : (d : ℕ) → d < 36 → digit (glyph d) ≡ d
digit_glyph d lt = grind (arith, nat_tests)

one_digit : (n : ℕ) → n < 36 → IsNumeral 36 (glyph (n % 36) ∷ []) n
one_digit n lt =
    let d = digit_glyph (n % 36) (omega arith) in
    let value : digit (glyph (n % 36)) ≡ n = omega (arith, d) in
    subst (λ (m : ℕ). IsNumeral 36 (glyph (n % 36) ∷ []) m) value (numeral_one 36 (glyph (n % 36)) (omega (arith, d)))

one_more : (n : ℕ) (ds : List ℕ) → 0 < n / 36 → IsNumeral 36 ds (n / 36) → IsNumeral 36 (ds ++ glyph (n % 36) ∷ []) n
one_more n ds some w =
    let d = digit_glyph (n % 36) (omega arith) in
    let value : n / 36 * 36 + digit (glyph (n % 36)) ≡ n = omega (arith, d) in
    subst (λ (m : ℕ). IsNumeral 36 (ds ++ glyph (n % 36) ∷ []) m) value (numeral_push 36 ds (n / 36) (glyph (n % 36)) (omega arith) some w (omega (arith, d)))

last_digits_numeral : (k n : ℕ) → n < 36 ^ suc k → IsNumeral 36 (last_digits (suc k) n) n
unfolding last_digits
last_digits_numeral zero n lt = rw (eq-eqb (n / 36) 0 (omega arith)) (one_digit n (omega arith))
last_digits_numeral (suc k) n lt = go (λ some. last_digits_numeral k (n / 36) (omega arith)) (eqb (n / 36) 0) refl
  where
    go : (0 < n / 36 → IsNumeral 36 (last_digits (suc k) (n / 36)) (n / 36)) → (b : Bool) → eqb (n / 36) 0 ≡ b → IsNumeral 36 (cond b [] (last_digits (suc k) (n / 36)) ++ glyph (n % 36) ∷ []) n
    go more true e = let z : n / 36 ≡ 0 = eqb-true (n / 36) 0 e in one_digit n (omega (arith, z))
    go more false e = let some : 0 < n / 36 = omega (arith, eqb-false (n / 36) 0 e) in one_more n (last_digits (suc k) (n / 36)) some (more some)

pub base36_numeral : (n : ℕ) → n < 170581728179578208256 → IsNumeral 36 (base36 n) n
base36_numeral n lt = last_digits_numeral 12 n lt

-- a number has one text in base 36
pub numeral_base36 : (text : List ℕ) (n : ℕ) → n < 170581728179578208256 → IsNumeral 36 text n → text ≡ base36 n
numeral_base36 text n lt w = numeral_same 36 (omega arith) (omega arith) text (base36 n) n w (base36_numeral n lt)

-- numbers of one value are the same
pub b36_same : (a b : B36) → a.number ≡ b.number → a ≡ b
b36_same a b e = go b.number e b.small
  where
    go : (k : ℕ) → a.number ≡ k → (q : k < 170581728179578208256) → a ≡ (let x : B36 = record { number = k; small = q } in x)
    go k e = subst (λ (k : ℕ). (q : k < 170581728179578208256) → a ≡ (let x : B36 = record { number = k; small = q } in x)) e
        (λ q. ap (λ (s : a.number < 170581728179578208256). let x : B36 = record { number = a.number; small = s } in x) (le_prop a.small q))
