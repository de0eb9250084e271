-- The names of transactions are read exactly.
use Rattle.std.proofs.Common.{◌≡◌, ℕ, ◌<◌, List, [], ◌∷◌, ◌++◌, Option, Some, None, refl, sym, ap, ◌∙◌, append_assoc, arith}
use Rattle.std.specs.Prelude.{IfSome, IsSomeAnd, option_map}
use Rattle.std.proofs.lemmas.Option.{same_Some}
use Rattle.fsfs_base.specs.Grammar.Relations.{Appends}
use Rattle.fsfs_base.specs.Grammar.Numeral.{AppendsNumeral}
use Rattle.fsfs_base.proofs.Spelling.{Spells, cut_spells, numeral_spells}
use Rattle.fsfs_base.specs.Fields.RevNums.{IsRev}
use Rattle.fsfs_base.proofs.RevNumTexts.{rev_spells, rev_text_lacks}
use Rattle.fsfs_base.specs.declared.fields.txn_name.TxnName.{TxnName}
use Rattle.fsfs_base.specs.Fields.TxnNames.{IsTxnName, txn_name_at}

pub txn_name_spells : Spells IsTxnName txn_name_at
txn_name_spells = cut_spells 45 (rev_text_lacks 45 (omega arith)) rev_spells (numeral_spells 36 170581728179578208255 (omega arith))

pub name_found : (text : List ℕ) (r : Option TxnName) → option_map (λ t. (t.base, t.number.number)) r ≡ txn_name_at text → IfSome r (λ t. IsTxnName text (t.base, t.number.number))
name_found text None e = tt
name_found text (Some t) e = txn_name_spells.found text (t.base, t.number.number) (sym e)

pub name_only : (text : List ℕ) (r : Option TxnName) → option_map (λ t. (t.base, t.number.number)) r ≡ txn_name_at text
    → (base number : ℕ) → IsTxnName text (base, number) → IsSomeAnd r (λ t. (t.base ≡ base) × (t.number.number ≡ number))
name_only text None e base number w = let f = e ∙ txn_name_spells.again text (base, number) w in absurd cc
name_only text (Some t) e base number w =
    let same = same_Some {A = ℕ × ℕ} (t.base, t.number.number) (base, number) (e ∙ txn_name_spells.again text (base, number) w) in
    (ap (λ (p : ℕ × ℕ). p.0) same, ap (λ (p : ℕ × ℕ). p.1) same)

-- what is written is in the grammar
pub name_put : (a b c d : List ℕ) (base number : ℕ) → number < 170581728179578208256 → Appends IsRev a b base → c ≡ b ++ 45 ∷ [] → AppendsNumeral 36 c d number → Appends IsTxnName a d (base, number)
name_put a b c d base number small first dash last =
    let front : c ≡ (a ++ first.text) ++ 45 ∷ [] = dash ∙ ap (λ (t : List ℕ). t ++ 45 ∷ []) first.parts in
    record {
      text = first.text ++ 45 ∷ last.digits;
      text_is = (first.text, last.digits, first.text_is, (last.numeral, omega (arith, small)), refl);
      parts = last.parts ∙ ap (λ (t : List ℕ). t ++ last.digits) front ∙ simp append_assoc;
    }

-- names with the same numbers are the same
pub txn_same : (a b : TxnName) → a.base ≡ b.base → a.number ≡ b.number → a ≡ b
txn_same a b e f = λ i. record { base = e i; number = f i }
