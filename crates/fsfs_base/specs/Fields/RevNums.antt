-- Revision numbers, and their texts: decimal, without leading zeros. (The libsvn_fs_fs structure file; the limit is this project's
-- profile.)
use Rattle.std.specs.Prelude.{ℕ, List, Option, Result}
use Rattle.fsfs_base.specs.Grammar.Numeral.{IsPlain, IsNumber, numeral_at, number_at}

-- the last number that a revision may have
abbrev pub last_rev : ℕ
last_rev = 2147483647

-- a revision's number alone
abbrev pub IsRev : List ℕ → ℕ → Type 0
IsRev = IsPlain 10 last_rev

-- a revision's number and the byte that ends it
abbrev pub IsRevEnded : ℕ → List ℕ → ℕ → Type 0
IsRevEnded end = IsNumber 10 last_rev end

-- reading
abbrev pub rev_at : List ℕ → Option ℕ
rev_at text = numeral_at 10 last_rev text

abbrev pub rev_ended_at : ℕ → List ℕ → Result (ℕ × List ℕ) ℕ
rev_ended_at end bytes = number_at 10 last_rev end bytes
