-- Entries have one text.
use Rattle.std.proofs.Common.{◌≡◌, ℕ, List, [], ◌∷◌, ◌++◌, length, sym, ap, ◌∙◌, append_assoc, arith}
use Rattle.std.specs.Prelude.{codes, decimal}
use Rattle.std.specs.List.{flat_map}
use Rattle.fsfs_base.proofs.Unique.{numeral_decimal}
use Rattle.fsfs_layout.specs.Hash.Dump.{Field, Pair, Entries, field_text, pair_text, dump_text}

field_one : (letter : ℕ) (text bytes : List ℕ) → Field letter text bytes → text ≡ field_text letter bytes
field_one letter text bytes w =
    let u = w.second_is in
    let v = u.second_is in
    let size : u.between ≡ length bytes = sym v.first_is.1 ∙ ap length (sym v.second_is.value_is) in
    let digits : u.first_is.digits ≡ decimal (length bytes) = numeral_decimal u.first_is.digits u.between (omega (arith, u.first_is.fits)) u.first_is.numeral ∙ ap decimal size in
    let number : u.first ≡ decimal (length bytes) ++ 10 ∷ [] = u.first_is.parts ∙ ap (λ (t : List ℕ). t ++ 10 ∷ []) digits in
    let rest : u.second ≡ bytes ++ 10 ∷ [] = v.parts ∙ (λ i. (v.first_is.0 ∙ sym v.second_is.value_is) i ++ v.second_is.inner_is i) in
    let behind : w.second ≡ (decimal (length bytes) ++ 10 ∷ []) ++ (bytes ++ 10 ∷ []) = u.parts ∙ (λ i. number i ++ rest i) in
    w.parts ∙ (λ i. w.first_is i ++ behind i)

pub pair_one : (text : List ℕ) (pair : List ℕ × List ℕ) → Pair text pair → text ≡ pair_text pair
pair_one text pair w =
    w.parts
    ∙ (λ i. field_one 75 w.first w.between w.first_is i ++ field_one 86 w.second w.second_is.inner w.second_is.inner_is i)
    ∙ ap pair_text (sym w.second_is.value_is)

pub entries_one : (text : List ℕ) (pairs : List (List ℕ × List ℕ)) → Entries text pairs → text ≡ dump_text pairs
entries_one text [] w = w.1
entries_one text (pair ∷ pairs) w =
    w.4
    ∙ (λ i. pair_one w.0 pair w.2 i ++ entries_one w.1 pairs w.3 i)
    ∙ sym (append_assoc (pair_text pair) (flat_map pair_text pairs) (codes "END\n"))
