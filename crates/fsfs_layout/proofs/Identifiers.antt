-- The text of an identifier has 36 characters, none of which ends a line.
use Rattle.std.proofs.Common.{◌≡◌, ℕ, zero, suc, List, [], ◌∷◌, ◌++◌, length, Bool, true, false, refl, arith}
use Rattle.std.specs.Prelude.{◌==◌, if◌then◌else◌}
use Rattle.std.proofs.lemmas.Bool.{ne_eqb}
use Rattle.std.proofs.lemmas.Bool.Decides.{nat_tests}
use Rattle.uuid.specs.Text.{by_index, hex_digit, is_hyphen_place, nibble, digit_place, hyphenated_text, lower}
use Rattle.uuid.proofs.TextLemmas.{by_index_length}
use Rattle.fsfs_base.specs.Grammar.Cuts.{Lacks}

push_lacks : (text : List ℕ) (b : ℕ) → Lacks 10 text → (b == 10) ≡ false → Lacks 10 (text ++ b ∷ [])
push_lacks [] b h e = (e, tt)
push_lacks (c ∷ text) b h e = (h.0, push_lacks text b h.1 e)

by_index_lacks : (n : ℕ) (f : ℕ → ℕ) → ((k : ℕ) → (f k == 10) ≡ false) → Lacks 10 (by_index n f)
unfolding by_index
by_index_lacks zero f h = tt
by_index_lacks (suc n) f h = push_lacks (by_index n f) (f n) (by_index_lacks n f h) (h n)

no_digit : (d : ℕ) → hex_digit 97 d ≡ 10 → ⊥
no_digit d e = grind (arith, nat_tests)

character : (b : Bool) (d : ℕ) → ((if b then 45 else hex_digit 97 d) == 10) ≡ false
character true d = refl
character false d = ne_eqb (hex_digit 97 d) 10 (no_digit d)

pub identifier_length : (id : List ℕ) → length (hyphenated_text lower id) ≡ 36
identifier_length id = by_index_length 36 _

pub identifier_lacks : (id : List ℕ) → Lacks 10 (hyphenated_text lower id)
identifier_lacks id = by_index_lacks 36 _ (λ k. character (is_hyphen_place k) (nibble id (digit_place k)))
