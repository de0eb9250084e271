-- The names of the files of a transaction's folder.
use Rattle.std.specs.Prelude.{◌≡◌, ◌≤◌, ℕ, List, ◌∷◌, ◌++◌, codes}
use Rattle.std.specs.Fmt.{decimal}
use Rattle.fsfs_base.specs.Grammar.Base36.{base36}
use Rattle.fsfs_base.specs.Fields.RevNums.{last_rev}
use Rattle.fsfs_noderev.specs.Ids.{PartValue, New, Old, Made, part_value}
use Rattle.fsfs_txn_files.specs.declared.folder_file.FolderFile.{FolderFile}
use Rattle.fsfs_txn_files.specs.declared.folder_file.FolderFile.TheVariants.{NextIds, Changes, Node, Children, Props}

-- the text of a node part or a copy part
abbrev pub part_text : PartValue → List ℕ
part_text (New n) = 95 ∷ base36 n
part_text (Old n) = base36 n
part_text (Made n rev) = base36 n ++ 45 ∷ decimal rev

-- `node.<node part>.<copy part>`
abbrev pub node_name : PartValue → PartValue → List ℕ
node_name node copy = codes "node." ++ part_text node ++ 46 ∷ part_text copy

-- behind that `.children`, or `.props`
abbrev pub children_name : PartValue → PartValue → List ℕ
children_name node copy = node_name node copy ++ codes ".children"

abbrev pub props_name : PartValue → PartValue → List ℕ
props_name node copy = node_name node copy ++ codes ".props"

abbrev pub file_name : FolderFile → List ℕ
file_name NextIds = codes "next-ids"
file_name Changes = codes "changes"
file_name (Node id) = node_name (part_value id.node) (part_value id.copy)
file_name (Children id) = children_name (part_value id.node) (part_value id.copy)
file_name (Props id) = props_name (part_value id.node) (part_value id.copy)

-- ---- no two files have one name

-- a number of at most 13 digits, in a revision that there may be
abbrev pub FitsPart : PartValue → Type 0
FitsPart (New n) = n ≤ 170581728179578208255
FitsPart (Old n) = n ≤ 170581728179578208255
FitsPart (Made n rev) = (n ≤ 170581728179578208255) × (rev ≤ last_rev)

abbrev pub FitsId : (node copy : PartValue) → Type 0
FitsId node copy = FitsPart node × FitsPart copy

-- what a file is of: one that the folder has once, or one of those of a node part and a copy part
pub data FileOf : Type 0 where
  Once : List ℕ → FileOf
  OfNode : (node copy : PartValue) → List ℕ → FileOf

abbrev pub file_of : FolderFile → FileOf
file_of NextIds = Once (codes "next-ids")
file_of Changes = Once (codes "changes")
file_of (Node id) = OfNode (part_value id.node) (part_value id.copy) (codes "")
file_of (Children id) = OfNode (part_value id.node) (part_value id.copy) (codes ".children")
file_of (Props id) = OfNode (part_value id.node) (part_value id.copy) (codes ".props")

abbrev pub Fits : FolderFile → Type 0
Fits NextIds = Unit {0}
Fits Changes = Unit {0}
Fits (Node id) = FitsId (part_value id.node) (part_value id.copy)
Fits (Children id) = FitsId (part_value id.node) (part_value id.copy)
Fits (Props id) = FitsId (part_value id.node) (part_value id.copy)

-- files with one name are one file
abbrev pub NamesAreApart : Type 0
NamesAreApart = (a b : FolderFile) → Fits a → Fits b → file_name a ≡ file_name b → file_of a ≡ file_of b
