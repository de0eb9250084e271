-- A number has one text, and the decimal one is what std prints.
use Rattle.std.proofs.Common.{◌≡◌, ℕ, ◌+◌, ◌-◌, ◌*◌, ◌/◌, ◌%◌, ◌^◌, ◌<◌, ◌≤◌, List, [], ◌∷◌, ◌++◌, length, take, drop, refl, sym, ap, subst, ◌∙◌, arith}
use Rattle.std.proofs.lemmas.Bool.Decides.{nat_tests}
use Rattle.std.proofs.lemmas.List.{length-drop, take-append-drop}
use Rattle.std.proofs.lemmas.Nat.{same_from_place}
use Rattle.std.proofs.lemmas.Fmt.{decimal_by_steps}
use Rattle.std.specs.Fmt.{decimal}
use Rattle.std.specs.List.{AllByRecursion}
use Rattle.fsfs_base.specs.Grammar.Numeral.{digit, value_after, IsNumeral, IsPlain, AppendsNumeral}
use Rattle.fsfs_base.proofs.Numerals.{value_grows, numeral_one, numeral_push, digit-decimal}

pub digit_same : (c d : ℕ) → digit c < 36 → digit c ≡ digit d → c ≡ d
digit_same c d lt e = grind (arith, nat_tests)

abbrev pub AreDigits : ℕ → List ℕ → Type 0
AreDigits base = AllByRecursion (λ d. digit d < base)

-- as many digits, behind what went before, that stand for the same number
same_digits : (base : ℕ) → base ≤ 36 → (m n : ℕ) (s t : List ℕ) → AreDigits base s → AreDigits base t → length s ≡ length t → value_after base m s ≡ value_after base n t → (m ≡ n) × (s ≡ t)
unfolding value_after
same_digits base small m n [] [] a b size e = (e, refl)
same_digits base small m n [] (d ∷ t) a b size e = absurd (omega (arith, size))
same_digits base small m n (c ∷ s) [] a b size e = absurd (omega (arith, size))
same_digits base small m n (c ∷ s) (d ∷ t) a b size e =
    let rest = same_digits base small (m * base + digit c) (n * base + digit d) s t a.1 b.1 (omega (arith, size)) e in
    let place = same_from_place m (digit c) n (digit d) base a.0 b.0 rest.0 in
    let first : c ≡ d = digit_same c d (omega (arith, a.0, small)) place.1 in
    (place.0, λ i. first i ∷ rest.1 i)

value_append : (base n : ℕ) (s t : List ℕ) → value_after base n (s ++ t) ≡ value_after base (value_after base n s) t
unfolding value_after
value_append base n [] t = refl
value_append base n (c ∷ s) t = value_append base (n * base + digit c) s t

digits_parts : (base : ℕ) (s t : List ℕ) → AreDigits base (s ++ t) → AreDigits base s × AreDigits base t
digits_parts base [] t h = (tt, h)
digits_parts base (c ∷ s) t h = let w = digits_parts base s t h.1 in ((h.0, w.0), w.1)

pub numeral_digits : (base : ℕ) (s : List ℕ) (n : ℕ) → IsNumeral base s n → AreDigits base s × (0 < length s) × (value_after base 0 s ≡ n)
numeral_digits base [] n w = absurd w
numeral_digits base (c ∷ s) n w = (w.0, omega arith, w.2)

-- a text with more digits stands for another number
no_longer : (base : ℕ) → 1 ≤ base → base ≤ 36 → (s t : List ℕ) (n : ℕ) → IsNumeral base s n → IsNumeral base t n → length s < length t → ⊥
unfolding value_after
no_longer base low small s [] n a b lt = b
no_longer base low small s (d ∷ t) n a b lt =
    let w = numeral_digits base s n a in
    let j : ℕ = length t - length s in
    let whole : take j t ++ drop j t ≡ t = take-append-drop j t in
    let more : 0 < length t = omega (arith, w.1, lt) in
    let not_zero : digit d ≡ 0 → ⊥ = (λ z. omega (arith, more, ap length (b.1 z))) in
    let all = digits_parts base (take j t) (drop j t) (subst (AreDigits base) (sym whole) b.0.1) in
    let value : value_after base (value_after base (0 * base + digit d) (take j t)) (drop j t) ≡ n =
    sym (value_append base (0 * base + digit d) (take j t) (drop j t)) ∙ ap (value_after base (0 * base + digit d)) whole ∙ b.2 in
    let same = same_digits base small 0 (value_after base (0 * base + digit d) (take j t)) s (drop j t) w.0 all.1 (omega (arith, length-drop j t, lt)) (w.2 ∙ sym value) in
    omega (arith, same.0, value_grows base (0 * base + digit d) low (take j t), not_zero)

-- a number has one text
pub numeral_same : (base : ℕ) → 1 ≤ base → base ≤ 36 → (s t : List ℕ) (n : ℕ) → IsNumeral base s n → IsNumeral base t n → s ≡ t
numeral_same base low small s t n a b =
    let v = numeral_digits base s n a in
    let w = numeral_digits base t n b in
    let one : length s < length t → ⊥ = no_longer base low small s t n a b in
    let two : length t < length s → ⊥ = no_longer base low small t s n b a in
    (same_digits base small 0 0 s t v.0 w.0 (omega (arith, one, two)) (v.2 ∙ sym w.2)).1

pub decimal_numeral : (n : ℕ) → n < 2 ^ 64 → IsNumeral 10 (decimal n) n
decimal_numeral n lt = decimal_by_steps (λ n ds. IsNumeral 10 ds n) one more n lt
  where
    one : (n : ℕ) → n < 10 → IsNumeral 10 ((48 + n) ∷ []) n
    one n lt =
        let d = digit-decimal n lt in
        subst (λ (k : ℕ). IsNumeral 10 ((48 + n) ∷ []) k) d (numeral_one 10 (48 + n) (omega (arith, d)))

    more : (n : ℕ) (ds : List ℕ) → 10 ≤ n → IsNumeral 10 ds (n / 10) → IsNumeral 10 (ds ++ (48 + n % 10) ∷ []) n
    more n ds le w =
        let d = digit-decimal (n % 10) (omega arith) in
        let value : n / 10 * 10 + digit (48 + n % 10) ≡ n = omega (arith, d) in
        subst (λ (k : ℕ). IsNumeral 10 (ds ++ (48 + n % 10) ∷ []) k) value (numeral_push 10 ds (n / 10) (48 + n % 10) (omega arith) (omega arith) w (omega (arith, d)))

-- the decimal text of a number is the one that std prints
pub numeral_decimal : (text : List ℕ) (n : ℕ) → n < 2 ^ 64 → IsNumeral 10 text n → text ≡ decimal n
numeral_decimal text n lt w = numeral_same 10 (omega arith) (omega arith) text (decimal n) n w (decimal_numeral n lt)

pub decimal_plain : (limit n : ℕ) → n ≤ limit → n < 2 ^ 64 → IsPlain 10 limit (decimal n) n
decimal_plain limit n le lt = (decimal_numeral n lt, le)

-- what was written at the end is the decimal text that std prints
pub appended_decimal : (old new : List ℕ) (n : ℕ) → n < 2 ^ 64 → AppendsNumeral 10 old new n → new ≡ old ++ decimal n
appended_decimal old new n lt w = w.parts ∙ ap (λ (ds : List ℕ). old ++ ds) (numeral_decimal w.digits n lt w.numeral)
