-- The transactions that a disk keeps, by their labels.
use Rattle.std.specs.Prelude.{ℕ, List, [], ◌∷◌, Bool, is_some, if◌then◌else◌}
use Rattle.std.specs.List.{flat_map}
use Rattle.std.specs.Ordering.{nat_cmp}
use Rattle.std.specs.Cmp.Lexicographic.{slice_cmp}
use Rattle.std.specs.List.Sorted.{IsSorted, IsPermutation}
use Rattle.fsfs_base.specs.Fields.TxnNames.{txn_text, txn_name_at}
use Rattle.fsfs_base.specs.declared.fields.txn_name.TxnName.{TxnName}
use Rattle.fsfs_disk.specs.Labels.{Label, Txn, Pack, HotCopy}

-- a transaction's base and its number
abbrev pub pair_of : TxnName → ℕ × ℕ
pair_of name = (name.base, name.number.number)

abbrev pub txn_label : ℕ × ℕ → Label
txn_label txn = Txn txn.0 txn.1

abbrev pub text_of : TxnName → List ℕ
text_of name = txn_text name.base name.number.number

-- a text in the grammar of transactions' names
abbrev pub is_name : List ℕ → Bool
is_name text = is_some (txn_name_at text)

-- the name of a label's transaction, where it is in the grammar
abbrev pub name_in : Label → List (List ℕ)
name_in (Txn base number) = if is_name (txn_text base number) then txn_text base number ∷ [] else []
name_in (Pack shard) = []
name_in HotCopy = []

abbrev pub names_in : List Label → List (List ℕ)
names_in labels = flat_map name_in labels

-- the names of the transactions among labels, in the order of their bytes
pub record AreTxns (labels : List Label) (names : List (List ℕ)) : Type 0 where
  pub ordered : IsSorted (slice_cmp nat_cmp) names
  pub all : IsPermutation (names_in labels) names
