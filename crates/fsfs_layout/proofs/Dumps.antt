-- A dump is read exactly.
use Rattle.std.proofs.Common.{◌≡◌, ℕ, suc, true, false, eqb, List, [], ◌∷◌, length, Result, Ok, Err, refl, sym, ◌∙◌, arith}
use Rattle.fsfs_base.specs.Grammar.Relations.{IsText, begins}
use Rattle.fsfs_base.proofs.Readers.{Reads, ReadsAll, next_reads, mapped_reads, until_reads, from_steps, whole_reads, text_reads, bytes_reads, ok_is}
use Rattle.fsfs_base.proofs.Numerals.{number_reads}
use Rattle.fsfs_layout.specs.Hash.Dump.{Entries, Field, Pair, IsDump, put_all}
use Rattle.fsfs_layout.specs.Hash.Reading.{entries_at, field_at, entry_at, dump_at}

pub field_reads : (letter n : ℕ) → Reads n (Field letter) (field_at letter)
unfolding field_at
field_reads letter n =
    next_reads (text_reads (letter ∷ 32 ∷ [])) (λ _. next_reads (λ k. number_reads 10 18446744073709551615 10 k (omega arith) (omega arith))
    (λ count. next_reads (bytes_reads count) (λ bytes k. mapped_reads (λ (_ : Unit {0}). bytes) (text_reads (10 ∷ []) k)))) n

pub entry_reads : (n : ℕ) → Reads n Pair entry_at
unfolding entry_at
entry_reads n = next_reads (field_reads 75) (λ key k. mapped_reads (λ (value : List ℕ). (key, value)) (field_reads 86 k)) n

entry_first : (t : List ℕ) (x : List ℕ × List ℕ) → Pair t x → begins 75 t ≡ true
entry_first t x w = rw (w.parts, w.first_is.parts, w.first_is.first_is) refl

end_first : (t : List ℕ) (z : Unit {0}) → IsText (69 ∷ 78 ∷ 68 ∷ 10 ∷ []) t z → (b : ℕ) × (bs : List ℕ) × (t ≡ b ∷ bs) × (eqb b 75 ≡ false)
end_first t z e = (69, 78 ∷ 68 ∷ 10 ∷ [], e, refl)

pub entries_reads : (n : ℕ) → Reads n Entries (λ bytes. entries_at (suc (length bytes)) bytes)
entries_reads = from_steps (until_reads 75 entry_first end_first entry_reads (text_reads (69 ∷ 78 ∷ 68 ∷ 10 ∷ [])))

pub dump_reads : (n : ℕ) → ReadsAll n IsDump dump_at
unfolding dump_at
dump_reads = whole_reads (λ n. mapped_reads (put_all []) (entries_reads n))

pub pairs_same : (r : Result (List (List ℕ × List ℕ)) ℕ) (a b : List (List ℕ × List ℕ)) → r ≡ Ok a → r ≡ Ok b → a ≡ b
pairs_same r a b p q = let e = sym p ∙ q in ok_is a b e

pub no_fault : (r : Result (List (List ℕ × List ℕ)) ℕ) (a : List (List ℕ × List ℕ)) (left : ℕ) → r ≡ Ok a → r ≡ Err left → ⊥
no_fault r a left p q = cc
