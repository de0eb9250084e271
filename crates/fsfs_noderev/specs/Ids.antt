-- Ids of node-revisions: `<node>.<copy>.r<revision>/<offset>`, or `<node>.<copy>.t<transaction>`.
use Rattle.std.specs.Prelude.{◌≡◌, ℕ, List, [], ◌∷◌, Option, Some, None, ◌==◌, if◌then◌else◌}
use Rattle.fsfs_base.specs.Grammar.Numeral.{IsPlain, numeral_at}
use Rattle.fsfs_base.specs.Grammar.Cuts.{IsCutOf, cut, and_then, parts_at}
use Rattle.fsfs_base.specs.Fields.RevNums.{IsRev, rev_at}
use Rattle.fsfs_base.specs.Fields.TxnNames.{IsTxnName, txn_name_at}
use Rattle.fsfs_noderev.specs.declared.node_id.Part.{Part}
use Rattle.fsfs_noderev.specs.declared.node_id.Part.TheVariants as part
use Rattle.fsfs_noderev.specs.declared.node_id.Place.{Place}
use Rattle.fsfs_noderev.specs.declared.node_id.Place.TheVariants as place
use Rattle.fsfs_noderev.specs.declared.node_id.NodeId.{NodeId}

-- a node or copy part by its numbers
pub data PartValue : Type 0 where
  New : ℕ → PartValue
  Old : ℕ → PartValue
  Made : ℕ → ℕ → PartValue

-- a place by its numbers
pub data PlaceValue : Type 0 where
  At : ℕ → ℕ → PlaceValue
  In : ℕ → ℕ → PlaceValue

-- an id by its numbers
pub record IdValue : Type 0 where
  pub node : PartValue
  pub copy : PartValue
  pub place : PlaceValue

abbrev pub part_value : Part → PartValue
part_value (part.New n) = New n.number
part_value (part.Old n) = Old n.number
part_value (part.Made n rev) = Made n.number rev

abbrev pub place_value : Place → PlaceValue
place_value (place.At rev offset) = At rev offset
place_value (place.In txn) = In txn.base txn.number.number

abbrev pub id_value : NodeId → IdValue
id_value id = record { node = part_value id.node; copy = part_value id.copy; place = place_value id.place }

abbrev pub IsB36 : List ℕ → ℕ → Type 0
IsB36 = IsPlain 36 170581728179578208255

abbrev pub IsNumber64 : List ℕ → ℕ → Type 0
IsNumber64 = IsPlain 10 18446744073709551615

-- `_x` of the transaction, `x` of revision 0, or `x-rev`
abbrev pub IsPart : List ℕ → PartValue → Type 0
IsPart text (New n) = (digits : List ℕ) × IsB36 digits n × (text ≡ 95 ∷ digits)
IsPart text (Old n) = IsB36 text n
IsPart text (Made n rev) = IsCutOf 45 IsB36 IsRev text (n, rev)

-- `r<revision>/<offset>` or `t<transaction>`
abbrev pub IsPlace : List ℕ → PlaceValue → Type 0
IsPlace text (At rev offset) = (rest : List ℕ) × IsCutOf 47 IsRev IsNumber64 rest (rev, offset) × (text ≡ 114 ∷ rest)
IsPlace text (In base n) = (rest : List ℕ) × IsTxnName rest (base, n) × (text ≡ 116 ∷ rest)

abbrev pub IsId : List ℕ → IdValue → Type 0
IsId text id = IsCutOf 46 IsPart (IsCutOf 46 IsPart IsPlace) text (id.node, (id.copy, id.place))

-- reading
abbrev pub b36_at : List ℕ → Option ℕ
b36_at text = numeral_at 36 170581728179578208255 text

abbrev pub number_at : List ℕ → Option ℕ
number_at text = numeral_at 10 18446744073709551615 text

abbrev pub old_at : List ℕ → Option (List ℕ × List ℕ) → Option PartValue
old_at text None = and_then (b36_at text) (λ n. Some (Old n))
old_at text (Some p) = and_then (b36_at p.0) (λ n. and_then (rev_at p.1) (λ r. Some (Made n r)))

unfoldable pub part_at : List ℕ → Option PartValue
part_at [] = None
part_at (b ∷ bs) = if b == 95 then and_then (b36_at bs) (λ n. Some (New n)) else old_at (b ∷ bs) (cut 45 (b ∷ bs))

unfoldable pub place_at : List ℕ → Option PlaceValue
place_at [] = None
place_at (b ∷ bs) =
    if b == 114 then and_then (parts_at 47 rev_at number_at bs) (λ p. Some (At p.0 p.1))
    else if b == 116 then and_then (txn_name_at bs) (λ p. Some (In p.0 p.1))
    else None

unfoldable pub id_at : List ℕ → Option IdValue
id_at text = and_then (parts_at 46 part_at (λ t. parts_at 46 part_at place_at t) text) (λ p. Some (record { node = p.0; copy = p.1.0; place = p.1.1 }))
