-- What a book's part of a revision says of a window.
use Rattle.std.proofs.Common.{◌≡◌, ℕ, ◌<◌, ltb, List, [], length, take, drop, true, false, ◌⊎◌, Result, Ok, Err, inl, inr, arith, ap, sym, ◌∙◌}
use Rattle.std.proofs.lemmas.Bool.{ltb-true}
use Rattle.std.proofs.lemmas.List.{drop_all}
use Rattle.std.proofs.Math.Seq.{take-nil}
use Rattle.fsfs_base.proofs.Readers.{chosen}
use Rattle.fsfs_revision.specs.declared.wrong.Refusal.{Refusal}
use Rattle.fsfs_revision.specs.declared.book.BookFault.{BookFault}
use Rattle.fsfs_revision.specs.declared.book.BookFault.TheVariants.{Refused, Short}
use Rattle.fsfs_revision.specs.Told.{part_read}

abbrev Part : Type 0
Part = Result (List ℕ) BookFault

abbrev short : ℕ → ℕ → Part
short rev offset = Err (Short rev offset)

abbrev part : List ℕ → Part
part bytes = Ok bytes

abbrev cases : (rev offset count : ℕ) (bytes : List ℕ) → Part → Type 0
cases rev offset count bytes read =
    ((ltb (length bytes) offset ≡ true) × (short rev offset ≡ read)) ⊎ ((ltb (length bytes) offset ≡ false) × (part (take count (drop offset bytes)) ≡ read))

module _ (rev offset count : ℕ) (bytes : List ℕ) where
  split : (read : Part) → part_read rev offset count (Ok bytes) ≡ read → cases rev offset count bytes read
  split read e = chosen (ltb (length bytes) offset) (short rev offset) (part (take count (drop offset bytes))) read e

  pub part_found : (found : List ℕ) → part_read rev offset count (Ok bytes) ≡ Ok found → found ≡ take count (drop offset bytes)
  part_found found e = elim (split (Ok found) e) [ inl w ↦ let f = w.1 in absurd cc | inr w ↦ let f = w.1 in cc ]

  pub part_short : (r o : ℕ) → part_read rev offset count (Ok bytes) ≡ Err (Short r o) → [] ≡ take count (drop offset bytes)
  part_short r o e = elim (split (short r o) e) [
    | inl w ↦
        let past : length bytes < offset = ltb-true _ _ w.0 in
        sym (ap (take count) (drop_all offset bytes (omega arith)) ∙ take-nil count)
    | inr w ↦ let f = w.1 in absurd cc
  ]

  pub part_there : (refusal : Refusal) → part_read rev offset count (Ok bytes) ≡ Err (Refused refusal) → ⊥
  part_there refusal e = elim (split (Err (Refused refusal)) e) [ inl w ↦ let f = w.1 in cc | inr w ↦ let f = w.1 in cc ]

module _ (rev offset count : ℕ) (why : Refusal) where
  pub part_lacks : (found : List ℕ) → part_read rev offset count (Err why) ≡ Ok found → ⊥
  part_lacks found e = cc

  pub part_not_short : (r o : ℕ) → part_read rev offset count (Err why) ≡ Err (Short r o) → ⊥
  part_not_short r o e = cc

  pub part_refused : (refusal : Refusal) → part_read rev offset count (Err why) ≡ Err (Refused refusal) → refusal ≡ why
  part_refused refusal e = cc
