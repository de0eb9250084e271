-- Hexadecimal digits in lower case read and written back are the same.
use Rattle.std.proofs.Common.{◌≡◌, ℕ, zero, suc, ◌+◌, ◌*◌, ◌/◌, ◌%◌, ◌<◌, Bool, true, false, ◌&&◌, eqb, ltb, cond, List, [], ◌∷◌, length, drop, ◌≤◌, slice_index, Option, Some, None, Result, Ok, Err, refl, sym, ap, subst, ◌∙◌, arith, inl, inr}
use Rattle.std.proofs.lemmas.Bool.{and_parts, eqb-true, cases_lt, or_parts}
use Rattle.std.proofs.lemmas.Bool.Decides.{nat_tests}
use Rattle.std.proofs.lemmas.List.{drop_more, drop_all}
use Rattle.std.specs.List.{list_any, list_all}
use Rattle.hex.specs.Hex.{IsBytes, decode_pairs, decode_sized, hex_digit_value, value_at, pair_value, digit_or_error, encode_lower, encode_with, lower_digits, ◌>>=◌}
use Rattle.hex.specs.declared.error.FromHexError.{FromHexError}
use Rattle.hex.specs.declared.error.FromHexError.TheVariants.{OddLength, InvalidStringLength}
use Rattle.hex.proofs.HexLemmas.{decode_sized-encode_lower, length-encode_with}
use Rattle.hex.proofs.Pairs.{decode_sized-pairs}
use Rattle.fsfs_base.proofs.Readers.{chosen}
use Rattle.fsfs_base.specs.Fields.Digests.{is_capital, is_lower_digit, IsDigestText}

-- ---- the table of digits

abbrev lower_of : ℕ → ℕ
lower_of v = cond (ltb v 10) (v + 48) (v + 87)

abbrev first_agree : ℕ → Bool
first_agree zero = true
first_agree (suc n) = eqb (slice_index lower_digits n) (lower_of n) && first_agree n

agree_at : (n v : ℕ) → first_agree n ≡ true → v < n → eqb (slice_index lower_digits v) (lower_of v) ≡ true
agree_at zero v h lt = absurd (omega arith)
agree_at (suc n) v h lt =
    let parts = and_parts (eqb (slice_index lower_digits n) (lower_of n)) (first_agree n) h in
    elim (cases_lt v n) [
      | inl below ↦ agree_at n v parts.1 below
      | inr top ↦ let same : v ≡ n = omega arith in rw same parts.0
    ]

lower_at : (v : ℕ) → v < 16 → slice_index lower_digits v ≡ lower_of v
lower_at v lt = eqb-true _ _ (agree_at 16 v refl lt)

digit_small : (c v : ℕ) → is_capital c ≡ false → hex_digit_value c ≡ Some v → (v < 16) × (lower_of v ≡ c)
digit_small c v small e = grind (arith, nat_tests)

digit_back : (c v : ℕ) → is_capital c ≡ false → hex_digit_value c ≡ Some v → (v < 16) × (slice_index lower_digits v ≡ c)
digit_back c v small e = let w = digit_small c v small e in (w.0, lower_at v w.0 ∙ w.1)

-- ---- reading

bind_ok : {A B : Type 0} (r : Result A FromHexError) (f : A → Result B FromHexError) (y : B) → (r >>= f) ≡ Ok y → (x : A) × (r ≡ Ok x) × (f x ≡ Ok y)
bind_ok (Ok x) f y e = (x, refl, e)
bind_ok (Err d) f y e = absurd cc

digit_ok : (c i : ℕ) (o : Option ℕ) (v : ℕ) → digit_or_error c i o ≡ Ok v → o ≡ Some v
digit_ok c i (Some w) v e = let same : w ≡ v = cc in ap (λ (k : ℕ). Some k) same
digit_ok c i None v e = absurd cc

record IsDecoded (text bytes : List ℕ) : Type 0 where
  pub size : length text ≡ 2 * length bytes
  pub bytes_are : IsBytes bytes
  pub text_is : text ≡ encode_lower bytes

decoded : (i : ℕ) (text bytes : List ℕ) → list_any is_capital text ≡ false → decode_pairs i text ≡ Ok bytes → IsDecoded text bytes
unfolding decode_pairs encode_with
decoded i [] [] small e = record { size = refl; bytes_are = λ k. omega arith; text_is = refl }
decoded i [] (b ∷ bytes) small e = absurd cc
decoded i (c ∷ []) bytes small e = absurd cc
decoded i (c ∷ d ∷ text) bytes small e =
    let low = or_parts (is_capital c) (list_any is_capital (d ∷ text)) small in
    let lower = or_parts (is_capital d) (list_any is_capital text) low.1 in
    let pair = bind_ok (pair_value c d i) (λ byte. decode_pairs (i + 2) text >>= λ bytes. Ok (byte ∷ bytes)) bytes e in
    let high = bind_ok (value_at c i) (λ h. value_at d (i + 1) >>= λ l. Ok (h * 16 + l)) pair.0 pair.1 in
    let under = bind_ok (value_at d (i + 1)) (λ l. Ok (high.0 * 16 + l)) pair.0 high.2 in
    let rest = bind_ok (decode_pairs (i + 2) text) (λ bytes. Ok (pair.0 ∷ bytes)) bytes pair.2 in
    let h = digit_back c high.0 low.0 (digit_ok c i (hex_digit_value c) high.0 high.1) in
    let l = digit_back d under.0 lower.0 (digit_ok d (i + 1) (hex_digit_value d) under.0 under.1) in
    let byte : high.0 * 16 + under.0 ≡ pair.0 = (let same = under.2 in cc) in
    let bytes_is : (pair.0 ∷ rest.0) ≡ bytes = (let same = rest.2 in cc) in
    subst (IsDecoded (c ∷ d ∷ text)) bytes_is (both c d text high.0 under.0 pair.0 rest.0 h l byte (decoded (i + 2) text rest.0 lower.1 rest.1))
  where
    both : (c d : ℕ) (text : List ℕ) (h l byte : ℕ) (bytes : List ℕ) → (h < 16) × (slice_index lower_digits h ≡ c) → (l < 16) × (slice_index lower_digits l ≡ d) → h * 16 + l ≡ byte → IsDecoded text bytes → IsDecoded (c ∷ d ∷ text) (byte ∷ bytes)
    both c d text h l byte bytes a b e w =
        let high : byte / 16 ≡ h = omega (arith, a.0, b.0, e) in
        let low : byte % 16 ≡ l = omega (arith, a.0, b.0, e) in
        record {
          size = omega (arith, w.size);
          bytes_are = at w.bytes_are;
          text_is = (λ i. sym (ap (slice_index lower_digits) high ∙ a.1) i ∷ sym (ap (slice_index lower_digits) low ∙ b.1) i ∷ w.text_is i);
        }
      where
        at : IsBytes bytes → IsBytes (byte ∷ bytes)
        at is zero = omega (arith, a.0, b.0, e)
        at is (suc k) = is k

pub digest_found : (n : ℕ) (text bytes : List ℕ) → list_any is_capital text ≡ false → decode_sized text n ≡ Ok bytes → IsDigestText n text bytes
digest_found n text bytes small e = elim (chosen (eqb (length text % 2) 1) (Err OddLength) (cond (eqb (length text / 2) n) (decode_pairs 0 text) (Err InvalidStringLength)) (Ok bytes) e) [
  | inl w ↦ absurd cc
  | inr w ↦ elim (chosen (eqb (length text / 2) n) (decode_pairs 0 text) (Err InvalidStringLength) (Ok bytes) w.1) [
    | inl v ↦ let d = decoded 0 text bytes small v.1 in record { size = omega (arith, d.size, eqb-true _ _ v.0); bytes_are = d.bytes_are; text_is = d.text_is }
    | inr v ↦ absurd cc
  ]
]

-- ---- writing

lower_small : (v : ℕ) → v < 16 → is_capital (slice_index lower_digits v) ≡ false
lower_small v lt = ap is_capital (lower_at v lt) ∙ grind (arith, nat_tests)

written_small : (bytes : List ℕ) → IsBytes bytes → list_any is_capital (encode_lower bytes) ≡ false
unfolding encode_with
written_small [] is = refl
written_small (b ∷ bytes) is =
    let fits : b < 256 = is 0 in
    rw (lower_small (b / 16) (omega (arith, fits)), lower_small (b % 16) (omega arith)) (written_small bytes (λ k. is (suc k)))

digit_not_capital : (c : ℕ) → is_lower_digit c ≡ true → is_capital c ≡ false
digit_not_capital c e = grind (arith, nat_tests)

no_capital : (text : List ℕ) → list_all is_lower_digit text ≡ true → list_any is_capital text ≡ false
no_capital [] e = refl
no_capital (c ∷ text) e =
    let parts = and_parts (is_lower_digit c) (list_all is_lower_digit text) e in
    rw (digit_not_capital c parts.0, no_capital text parts.1) refl

-- one byte more is tested
pub all_more : (all whole : Bool) (text : List ℕ) (i : ℕ) → i < length text → (all && list_all is_lower_digit (drop i text)) ≡ whole → ((all && is_lower_digit (slice_index text i)) && list_all is_lower_digit (drop (i + 1) text)) ≡ whole
all_more all whole text i lt e = regroup all (is_lower_digit (slice_index text i)) (list_all is_lower_digit (drop (i + 1) text)) ∙ ap (λ (t : List ℕ). all && list_all is_lower_digit t) (sym (drop_more text i 0 lt)) ∙ e
  where
    regroup : (a b c : Bool) → ((a && b) && c) ≡ (a && (b && c))
    regroup true b c = refl
    regroup false b c = refl

-- each byte is tested
pub all_tested : (all whole : Bool) (text : List ℕ) (i : ℕ) → length text ≤ i → (all && list_all is_lower_digit (drop i text)) ≡ whole → all ≡ whole
all_tested all whole text i le e = last all ∙ ap (λ (t : List ℕ). all && list_all is_lower_digit t) (sym (drop_all i text le)) ∙ e
  where
    last : (a : Bool) → a ≡ (a && true)
    last true = refl
    last false = refl

pub digits_found : (n : ℕ) (text bytes : List ℕ) → length text % 2 ≡ 0 → length text / 2 ≡ n → list_all is_lower_digit text ≡ true → decode_pairs 0 text ≡ Ok bytes → IsDigestText n text bytes
digits_found n text bytes even half digits e = digest_found n text bytes (no_capital text digits) (decode_sized-pairs text n even half ∙ e)

lower_digit : (v : ℕ) → v < 16 → is_lower_digit (slice_index lower_digits v) ≡ true
lower_digit v lt = ap is_lower_digit (lower_at v lt) ∙ grind (arith, nat_tests)

written_digits : (bytes : List ℕ) → IsBytes bytes → list_all is_lower_digit (encode_lower bytes) ≡ true
unfolding encode_with
written_digits [] is = refl
written_digits (b ∷ bytes) is =
    let fits : b < 256 = is 0 in
    rw (lower_digit (b / 16) (omega (arith, fits)), lower_digit (b % 16) (omega arith)) (written_digits bytes (λ k. is (suc k)))

-- the text of a digest has twice its length, and digits alone
pub digits_again : (n : ℕ) (text bytes : List ℕ) → IsDigestText n text bytes → (length text ≡ 2 * n) × (list_all is_lower_digit text ≡ true)
digits_again n text bytes w = rw w.text_is (length-encode_with lower_digits bytes ∙ ap (λ (k : ℕ). 2 * k) w.size, written_digits bytes w.bytes_are)

pub not_both : (b : Bool) → b ≡ false → b ≡ true → ⊥
not_both b is_false is_true = let e = sym is_false ∙ is_true in absurd cc

pub pair_read : (a b i x y : ℕ) → value_at a i ≡ Ok x → value_at b (i + 1) ≡ Ok y → pair_value a b i ≡ Ok (x * 16 + y)
pair_read a b i x y first second = rw (first, second) refl

pub digest_again : (n : ℕ) (text bytes : List ℕ) → IsDigestText n text bytes → (list_any is_capital text ≡ false) × (decode_sized text n ≡ Ok bytes)
digest_again n text bytes w = rw w.text_is (written_small bytes w.bytes_are, decode_sized-encode_lower bytes n w.size w.bytes_are)

-- ---- one answer

pub ok_same : (x y : List ℕ) (read : Result (List ℕ) FromHexError) → read ≡ Ok x → read ≡ Ok y → x ≡ y
ok_same x y read a b = let e = sym a ∙ b in cc
