-- The folder of a bench, and the label that a folder is of.
use Rattle.std.specs.Prelude.{ℕ, ◌≤◌, ◌-◌, List, [], ◌∷◌, ◌++◌, length, take, drop, if◌then◌else◌, Option, Some, None, codes}
use Rattle.std.specs.Fmt.{decimal}
use Rattle.fsfs_base.specs.Grammar.Numeral.{numeral_at}
use Rattle.fsfs_base.specs.Fields.RevNums.{last_rev}
use Rattle.fsfs_base.specs.Fields.TxnNames.{txn_text, txn_name_at}
use Rattle.fsfs_base.specs.Files.{same_text}
use Rattle.fsfs_disk.specs.Labels.{Label, Txn, Pack, HotCopy}

-- where the bench of a label stands
abbrev pub bench_folder : Label → List ℕ
bench_folder (Txn base number) = codes "db/transactions/" ++ (txn_text base number ++ codes ".txn")
bench_folder (Pack shard) = codes "db/pack-" ++ (decimal shard ++ codes ".bench")
bench_folder HotCopy = codes "db/copy.bench"

-- what stands between so many bytes at the beginning and at the end
abbrev pub between : ℕ → ℕ → List ℕ → List ℕ
between front back path = take (length (drop front path) - back) (drop front path)

abbrev pub txns_of : Option (ℕ × ℕ) → List Label
txns_of None = []
txns_of (Some name) = Txn name.0 name.1 ∷ []

abbrev pub packs_of : Option ℕ → List Label
packs_of None = []
packs_of (Some shard) = Pack shard ∷ []

-- the first of some labels whose folder it is
abbrev pub first_of : List ℕ → List Label → Option Label
first_of path [] = None
first_of path (label ∷ labels) = if same_text (bench_folder label) path then Some label else first_of path labels

-- the label whose folder it is
unfoldable pub label_at : List ℕ → Option Label
label_at path = first_of path (txns_of (txn_name_at (between 16 4 path)) ++ (packs_of (numeral_at 10 4294967295 (between 8 6 path)) ++ HotCopy ∷ []))

-- the numbers that a label may have
abbrev pub IsFitting : Label → Type 0
IsFitting (Txn base number) = (base ≤ last_rev) × (number ≤ 170581728179578208255)
IsFitting (Pack shard) = shard ≤ 4294967295
IsFitting HotCopy = Unit {0}
