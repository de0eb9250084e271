-- A `children` file: a whole dump, and changes to its pairs up to the end of the file.
use Rattle.std.specs.Prelude.{ℕ, suc, List, [], ◌∷◌, length, Option, Some, None, Result, Ok, if◌then◌else◌}
use Rattle.std.specs.Ordering.{nat_cmp}
use Rattle.std.specs.Cmp.Lexicographic.{slice_cmp}
use Rattle.std.specs.BTreeMap.{is_at}
use Rattle.std.specs.Map.{remove_entry}
use Rattle.fsfs_base.specs.Grammar.Relations.{Then, Mapped, Either, Many, begins}
use Rattle.fsfs_base.specs.Grammar.Reading.{◌>>=◌, many_at}
use Rattle.fsfs_layout.specs.Hash.Dump.{Field, Pair, Entries, put, put_all}
use Rattle.fsfs_layout.specs.Hash.Reading.{field_at, entry_at, entries_at}

-- `D <len>\n<key>\n` takes the key away, an entry puts its pair
abbrev pub ChildrenChange : List ℕ → List ℕ × Option (List ℕ) → Type 0
ChildrenChange = Either (Mapped (λ key. (key, None)) (Field 68)) (Mapped (λ e. (e.0, Some e.1)) Pair)

-- the pairs without this key
abbrev pub without : List (List ℕ × List ℕ) → List ℕ → List (List ℕ × List ℕ)
without pairs key = remove_entry (is_at (slice_cmp nat_cmp key)) pairs

abbrev pub change : List (List ℕ × List ℕ) → List ℕ × Option (List ℕ) → List (List ℕ × List ℕ)
change pairs (key, None) = without pairs key
change pairs (key, Some value) = put pairs (key, value)

abbrev pub change_all : List (List ℕ × List ℕ) → List (List ℕ × Option (List ℕ)) → List (List ℕ × List ℕ)
change_all pairs [] = pairs
change_all pairs (c ∷ cs) = change_all (change pairs c) cs

abbrev pub IsChildren : List ℕ → List (List ℕ × List ℕ) → Type 0
IsChildren = Then Entries (λ es. Mapped (change_all (put_all [] es)) (Many ChildrenChange))

unfoldable pub change_at : List ℕ → Result ((List ℕ × Option (List ℕ)) × List ℕ) ℕ
change_at bytes =
    if begins 68 bytes then (field_at 68 bytes >>= λ k. Ok ((k.0, None), k.1))
    else (entry_at bytes >>= λ e. Ok ((e.0.0, Some e.0.1), e.1))

unfoldable pub children_at : List ℕ → Result (List (List ℕ × List ℕ)) ℕ
children_at bytes = entries_at (suc (length bytes)) bytes >>= λ p. many_at change_at (suc (length p.1)) p.1 >>= λ cs. Ok (change_all (put_all [] p.0) cs)
