-- Reading a manifest from left to right. A number's front is refused as soon as no number from `low` to `limit` begins with it.
use Rattle.std.specs.Prelude.{ℕ, zero, suc, ◌+◌, ◌-◌, ◌*◌, List, [], ◌∷◌, length, Bool, true, false, Result, Ok, Err, nat_lt, nat_le, ◌==◌, ◌&&◌, if◌then◌else◌}
use Rattle.fsfs_base.specs.Grammar.Reading.{◌>>=◌, text_at, whole}
use Rattle.fsfs_base.specs.Grammar.Numeral.{digit}

-- whether one of the numbers from least to greatest, or one with up to so many digits behind one of them, is from low to limit
unfoldable pub reaches_at : (limit digits low least greatest : ℕ) → Bool
reaches_at limit zero low least greatest = false
reaches_at limit (suc k) low least greatest =
    if nat_lt limit least then false
    else if nat_le low greatest then true
    else reaches_at limit k low (least * 10) (greatest * 10 + 9)

-- whether this digit may begin a number, and whether it may follow n
unfoldable pub starts_at : (limit digits low c : ℕ) → Bool
starts_at limit k low c = nat_lt (digit c) 10 && (if digit c == 0 then low == 0 else reaches_at limit k low (digit c) (digit c))

unfoldable pub follows_at : (limit digits low n c : ℕ) → Bool
follows_at limit k low n c = nat_lt (digit c) 10 && nat_lt 0 n && reaches_at limit k low (n * 10 + digit c) (n * 10 + digit c)

unfoldable pub offset_rest_at : (limit digits low n : ℕ) → List ℕ → Result (ℕ × List ℕ) ℕ
offset_rest_at limit k low n [] = Err 0
offset_rest_at limit k low n (c ∷ cs) =
    if c == 10 then (if nat_le low n then Ok (n, cs) else Err (suc (length cs)))
    else if follows_at limit k low n c then offset_rest_at limit k low (n * 10 + digit c) cs
    else Err (suc (length cs))

-- the number of a line, from low on
unfoldable pub offset_at : (limit digits low : ℕ) → List ℕ → Result (ℕ × List ℕ) ℕ
offset_at limit k low [] = Err 0
offset_at limit k low (c ∷ cs) = if starts_at limit k low c then offset_rest_at limit k low (digit c) cs else Err (suc (length cs))

-- so many lines, that don't fall
unfoldable pub offsets_at : (count low : ℕ) → List ℕ → Result (List ℕ × List ℕ) ℕ
offsets_at zero low bytes = Ok ([], bytes)
offsets_at (suc count) low bytes = offset_at 18446744073709551615 20 low bytes >>= λ p. offsets_at count p.0 p.1 >>= λ q. Ok (p.0 ∷ q.0, q.1)

unfoldable pub lines_at : ℕ → List ℕ → Result (List ℕ × List ℕ) ℕ
lines_at shard_size bytes = text_at (48 ∷ 10 ∷ []) bytes >>= λ a. offsets_at (shard_size - 1) 0 a.1 >>= λ q. Ok (0 ∷ q.0, q.1)

abbrev pub manifest_at : ℕ → List ℕ → Result (List ℕ) ℕ
manifest_at shard_size bytes = whole (lines_at shard_size bytes)
