-- The text of a number in base 36.
use Rattle.std.specs.Prelude.{ℕ, zero, suc, ◌+◌, ◌/◌, ◌%◌, List, [], ◌∷◌, ◌++◌, nat_lt, ◌==◌, if◌then◌else◌}

-- the digit that stands for a number below 36
abbrev pub glyph : ℕ → ℕ
glyph d = if nat_lt d 10 then 48 + d else 87 + d

-- the last digits of n, so many at most, and no 0 before them
unfoldable pub last_digits : ℕ → ℕ → List ℕ
last_digits zero n = []
last_digits (suc k) n = (if n / 36 == 0 then [] else last_digits k (n / 36)) ++ glyph (n % 36) ∷ []

-- the text of a number of at most 13 digits
abbrev pub base36 : ℕ → List ℕ
base36 n = last_digits 13 n
