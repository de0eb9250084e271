-- Hash dumps: for each pair `K <len>\n<key>\nV <len>\n<value>\n`, ended by `END\n`.
use Rattle.std.specs.Prelude.{◌≡◌, ℕ, List, [], ◌∷◌, ◌++◌, length, codes, decimal}
use Rattle.std.specs.List.{AllByRecursion, flat_map}
use Rattle.std.specs.declared.cmp.Ordering.TheVariants.{Less}
use Rattle.std.specs.Ordering.{nat_cmp}
use Rattle.std.specs.Cmp.Lexicographic.{slice_cmp}
use Rattle.std.specs.BTreeMap.{insert_entry}
use Rattle.fsfs_base.specs.Grammar.Relations.{Then, IsText, AreBytes, Mapped, Until}
use Rattle.fsfs_base.specs.Grammar.Numeral.{IsNumber}

-- bytes of any length that is a number of 64 bits, behind their letter and length: `K 3\nabc\n`
abbrev pub Field : ℕ → List ℕ → List ℕ → Type 0
Field letter = Then (IsText (letter ∷ 32 ∷ [])) (λ _. Then (IsNumber 10 18446744073709551615 10) (λ n. Then (AreBytes n) (λ bytes. Mapped (λ _. bytes) (IsText (10 ∷ [])))))

-- a key, marked by K, and its value, marked by V
abbrev pub Pair : List ℕ → List ℕ × List ℕ → Type 0
Pair = Then (Field 75) (λ key. Mapped (λ value. (key, value)) (Field 86))

-- entries in the order of the text, and then END
abbrev pub Entries : List ℕ → List (List ℕ × List ℕ) → Type 0
Entries = Until Pair (IsText (69 ∷ 78 ∷ 68 ∷ 10 ∷ []))

-- pairs in byte order of keys, with one more, which takes the place of one that has its key
abbrev pub put : List (List ℕ × List ℕ) → List ℕ × List ℕ → List (List ℕ × List ℕ)
put pairs e = insert_entry (slice_cmp nat_cmp) pairs e.0 e.1

-- pairs with each entry put to them in turn
abbrev pub put_all : List (List ℕ × List ℕ) → List (List ℕ × List ℕ) → List (List ℕ × List ℕ)
put_all pairs [] = pairs
put_all pairs (e ∷ es) = put_all (put pairs e) es

-- a dump is entries, of which the last of each key stands
abbrev pub IsDump : List ℕ → List (List ℕ × List ℕ) → Type 0
IsDump = Mapped (put_all []) Entries

-- pairs in order of keys, each key once
abbrev pub Ascending : List (List ℕ × List ℕ) → Type 0
Ascending [] = Unit {0}
Ascending (e ∷ es) = AllByRecursion (λ x. slice_cmp nat_cmp e.0 x.0 ≡ Less) es × Ascending es

-- ---- as they are written

abbrev pub field_text : ℕ → List ℕ → List ℕ
field_text letter bytes = (letter ∷ 32 ∷ []) ++ ((decimal (length bytes) ++ 10 ∷ []) ++ (bytes ++ 10 ∷ []))

abbrev pub pair_text : List ℕ × List ℕ → List ℕ
pair_text (key, value) = field_text 75 key ++ field_text 86 value

abbrev pub dump_text : List (List ℕ × List ℕ) → List ℕ
dump_text pairs = flat_map pair_text pairs ++ codes "END\n"
