-- Bytes in hexadecimal digits, byte by byte.
use Rattle.std.proofs.Common.{◌≡◌, ◌+◌, ◌/◌, ◌%◌, ◌*◌, ◌<◌, ◌≤◌, arith, ℕ, List, [], ◌∷◌, ◌++◌, length, take, get_or, refl, sym, ap, append_assoc, ◌∙◌}
use Rattle.std.specs.Prelude.{slice_index}
use Rattle.std.proofs.lemmas.List.{take_more, length-take}
use Rattle.hex.specs.Hex.{encode_with, encode_lower, lower_digits}
use Rattle.hex.proofs.HexLemmas.{length-encode_with}

encode_more : (t xs ys : List ℕ) → encode_with t (xs ++ ys) ≡ encode_with t xs ++ encode_with t ys
unfolding encode_with
encode_more t [] ys = refl
encode_more t (b ∷ xs) ys = ap (λ (r : List ℕ). slice_index t (b / 16) ∷ slice_index t (b % 16) ∷ r) (encode_more t xs ys)

pub hex_none : encode_lower [] ≡ []
unfolding encode_with
hex_none = refl

hex_one : (b : ℕ) → encode_lower (b ∷ []) ≡ slice_index lower_digits (b / 16) ∷ slice_index lower_digits (b % 16) ∷ []
unfolding encode_with
hex_one b = refl

-- one byte more
hex_more : (xs : List ℕ) (i : ℕ) → i < length xs
    → encode_lower (take (i + 1) xs) ≡ encode_lower (take i xs) ++ slice_index lower_digits (get_or xs i 0 / 16) ∷ slice_index lower_digits (get_or xs i 0 % 16) ∷ []
hex_more xs i lt =
    ap encode_lower (take_more xs i 0 lt)
    ∙ encode_more lower_digits (take i xs) (get_or xs i 0 ∷ [])
    ∙ ap (λ (t : List ℕ). encode_lower (take i xs) ++ t) (hex_one (get_or xs i 0))

-- its two digits are put behind the others
pub digits_more : (xs : List ℕ) (i high low : ℕ) (text mid new : List ℕ) → i < length xs → text ≡ 32 ∷ encode_lower (take i xs) → mid ≡ text ++ high ∷ [] → new ≡ mid ++ low ∷ []
    → high ≡ slice_index lower_digits (get_or xs i 0 / 16) → low ≡ slice_index lower_digits (get_or xs i 0 % 16) → new ≡ 32 ∷ encode_lower (take (i + 1) xs)
digits_more xs i high low text mid new lt so_far first second high_is low_is =
    second
    ∙ ap (λ (t : List ℕ). t ++ low ∷ []) first
    ∙ append_assoc text (high ∷ []) (low ∷ [])
    ∙ ap (λ (t : List ℕ). t ++ high ∷ low ∷ []) so_far
    ∙ ap (λ (h : ℕ). 32 ∷ encode_lower (take i xs) ++ h ∷ low ∷ []) high_is
    ∙ ap (λ (l : ℕ). 32 ∷ encode_lower (take i xs) ++ slice_index lower_digits (get_or xs i 0 / 16) ∷ l ∷ []) low_is
    ∙ ap (λ (t : List ℕ). 32 ∷ t) (sym (hex_more xs i lt))

-- how long the text is behind the space
pub hex_size : (xs : List ℕ) (i : ℕ) (text : List ℕ) → i ≤ length xs → text ≡ 32 ∷ encode_lower (take i xs) → length text ≡ 1 + 2 * i
hex_size xs i text le is = omega (arith, ap length is, length-encode_with lower_digits (take i xs), length-take i xs)
