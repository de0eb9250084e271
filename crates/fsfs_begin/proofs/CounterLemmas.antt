-- The number in `db/txn-current`.
use Rattle.std.proofs.Common.{◌≡◌, ℕ, List, [], ◌∷◌, ◌++◌, sym, subst, ◌∙◌}
use Rattle.fsfs_base.proofs.Readers.{all_again, ok_is}
use Rattle.fsfs_layout.specs.Small.{IsBase36Line}
use Rattle.fsfs_layout.proofs.Files.{base36_line_reads}

-- a text is of one number
pub one_number : (text : List ℕ) (n k : ℕ) → IsBase36Line text n → IsBase36Line text k → n ≡ k
one_number text n k a b = ok_is n k (sym (all_again base36_line_reads text n a) ∙ all_again base36_line_reads text k b)

no_empty : (digits : List ℕ) → [] ≡ digits ++ 10 ∷ [] → ⊥
no_empty [] e = absurd cc
no_empty (d ∷ digits) e = absurd cc

-- no text is of none
pub no_line : (n : ℕ) → IsBase36Line [] n → ⊥
no_line n line = no_empty line.digits line.parts

-- the text that was written is of the next number
pub line_of : (text items : List ℕ) (n k : ℕ) → text ≡ items → k ≡ n → IsBase36Line items k → IsBase36Line text n
line_of text items n k same number line =
    let here : IsBase36Line items n = subst (λ (x : ℕ). IsBase36Line items x) number line in
    subst (λ (s : List ℕ). IsBase36Line s n) (sym same) here
