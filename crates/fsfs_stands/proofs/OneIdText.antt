-- An id has one text.
use Rattle.std.proofs.Common.{◌≡◌, ℕ, ◌≤◌, Bool, true, false, List, ◌∷◌, ◌++◌, sym, ap, ◌∙◌, arith}
use Rattle.std.specs.Prelude.{codes}
use Rattle.fsfs_base.specs.Grammar.Numeral.{IsPlain}
use Rattle.fsfs_base.specs.Grammar.Cuts.{IsCutOf}
use Rattle.fsfs_base.proofs.Unique.{numeral_same}
use Rattle.fsfs_base.specs.Fields.RevNums.{last_rev}
use Rattle.fsfs_noderev.specs.Fields.{IsIdText}
use Rattle.fsfs_noderev.specs.Ids.{New, Old, Made, At, In, IsPart, IsPlace, id_value}
use Rattle.fsfs_noderev.specs.declared.node_id.NodeId.{NodeId}
use Rattle.fsfs_stands.specs.TreeTexts.{IsShownId}

-- each value has one text at most
abbrev HasOneSpelling : {X : Type 0} → (List ℕ → X → Type 0) → Type 0
HasOneSpelling {X} G = (x : X) (s t : List ℕ) → G s x → G t x → s ≡ t

plain_one : (base limit : ℕ) → 1 ≤ base → base ≤ 36 → HasOneSpelling (IsPlain base limit)
plain_one base limit low small n s t a b = numeral_same base low small s t n a.0 b.0

cut_one : {X Y : Type 0} (c : ℕ) (G : List ℕ → X → Type 0) (H : List ℕ → Y → Type 0) → HasOneSpelling G → HasOneSpelling H → HasOneSpelling (IsCutOf c G H)
cut_one c G H one two p s t a b =
    let front = one p.0 a.0 b.0 a.2 b.2 in
    let rest = two p.1 a.1 b.1 a.3 b.3 in
    a.4 ∙ (λ i. front i ++ c ∷ rest i) ∙ sym b.4

part_one : HasOneSpelling IsPart
part_one (New n) s t a b = a.2 ∙ ap (λ (x : List ℕ). 95 ∷ x) (plain_one 36 170581728179578208255 (omega arith) (omega arith) n a.0 b.0 a.1 b.1) ∙ sym b.2
part_one (Old n) s t a b = plain_one 36 170581728179578208255 (omega arith) (omega arith) n s t a b
part_one (Made n rev) s t a b =
    cut_one 45 (IsPlain 36 170581728179578208255) (IsPlain 10 last_rev) (plain_one 36 170581728179578208255 (omega arith) (omega arith)) (plain_one 10 last_rev (omega arith) (omega arith)) (n, rev) s t a b

place_one : HasOneSpelling IsPlace
place_one (At rev offset) s t a b =
    a.2 ∙ ap (λ (x : List ℕ). 114 ∷ x)
    (cut_one 47 (IsPlain 10 last_rev) (IsPlain 10 18446744073709551615) (plain_one 10 last_rev (omega arith) (omega arith)) (plain_one 10 18446744073709551615 (omega arith) (omega arith)) (rev, offset) a.0 b.0 a.1 b.1) ∙ sym b.2
place_one (In base n) s t a b =
    a.2 ∙ ap (λ (x : List ℕ). 116 ∷ x)
    (cut_one 45 (IsPlain 10 last_rev) (IsPlain 36 170581728179578208255) (plain_one 10 last_rev (omega arith) (omega arith)) (plain_one 36 170581728179578208255 (omega arith) (omega arith)) (base, n) a.0 b.0 a.1 b.1) ∙ sym b.2

pub id_text_one : (id : NodeId) (s t : List ℕ) → IsIdText s id → IsIdText t id → s ≡ t
id_text_one id s t a b =
    let v = id_value id in
    cut_one 46 IsPart (IsCutOf 46 IsPart IsPlace) part_one (cut_one 46 IsPart IsPlace part_one place_one) (v.node, (v.copy, v.place)) s t a b

pub shown_id_one : (ids : Bool) (id : NodeId) (s t : List ℕ) → IsShownId ids id s → IsShownId ids id t → s ≡ t
shown_id_one false id s t a b = a ∙ sym b
shown_id_one true id s t a b = a.2 ∙ ap (λ (x : List ℕ). codes " <" ++ x ++ codes ">") (id_text_one id a.0 b.0 a.1 b.1) ∙ sym b.2
