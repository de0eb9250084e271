-- Reading a dump from left to right.
use Rattle.std.specs.Prelude.{ℕ, suc, List, [], ◌∷◌, length, map, Option, option_map, Result, Ok}
use Rattle.std.specs.Borrow.{Bor}
use Rattle.fsfs_base.specs.Grammar.Reading.{◌>>=◌, text_at, bytes_at, until_at, whole}
use Rattle.fsfs_base.specs.Grammar.Numeral.{number_at}
use Rattle.fsfs_layout.specs.Hash.Dump.{put_all}

unfoldable pub field_at : ℕ → List ℕ → Result (List ℕ × List ℕ) ℕ
field_at letter bytes =
    text_at (letter ∷ 32 ∷ []) bytes >>= λ a. number_at 10 18446744073709551615 10 a.1 >>= λ n. bytes_at n.0 n.1 >>= λ b. text_at (10 ∷ []) b.1 >>= λ e. Ok (b.0, e.1)

unfoldable pub entry_at : List ℕ → Result ((List ℕ × List ℕ) × List ℕ) ℕ
entry_at bytes = field_at 75 bytes >>= λ k. field_at 86 k.1 >>= λ v. Ok ((k.0, v.0), v.1)

-- n is how many steps may be made
abbrev pub entries_at : ℕ → List ℕ → Result (List (List ℕ × List ℕ) × List ℕ) ℕ
entries_at n bytes = until_at entry_at (text_at (69 ∷ 78 ∷ 68 ∷ 10 ∷ [])) 75 n bytes

-- entries without where they lie in memory
abbrev pub views : List (Bor (List ℕ) × Bor (List ℕ)) → List (List ℕ × List ℕ)
views es = map (λ e. (e.0.now, e.1.now)) es

-- all of a dump
unfoldable pub dump_at : List ℕ → Result (List (List ℕ × List ℕ)) ℕ
dump_at bytes = whole (entries_at (suc (length bytes)) bytes >>= λ p. Ok (put_all [] p.0, p.1))

-- changes without where they lie in memory
abbrev pub change_views : List (Bor (List ℕ) × Option (Bor (List ℕ))) → List (List ℕ × Option (List ℕ))
change_views cs = map (λ c. (c.0.now, option_map (λ v. v.now) c.1)) cs
