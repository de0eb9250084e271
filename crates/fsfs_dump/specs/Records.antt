-- The text of a dump, record by record. (Subversion's dumpfile format, version 2, with full texts. Which headers and blocks stand is this project's
-- profile.)
use Rattle.std.specs.Prelude.{ℕ, ◌+◌, List, [], ◌++◌, length, drop, Option, Some, None, option_map, unwrap_or, codes, decimal}
use Rattle.std.specs.List.{flat_map}
use Rattle.md5.specs.Md5.{md5 as md5_of}
use Rattle.sha1.specs.Sha1.{sha1 as sha1_of}
use Rattle.hex.specs.Hex.{encode_lower}
use Rattle.fsfs_base.specs.Paths.{Path, path_text}
use Rattle.fsfs_base.specs.declared.kind.Kind.{Kind}
use Rattle.fsfs_base.specs.declared.kind.Kind.TheVariants.{File, Dir}
use Rattle.fsfs_base.specs.declared.action.Action.{Action}
use Rattle.fsfs_base.specs.declared.action.Action.TheVariants.{Add, Delete, Replace, Modify}
use Rattle.fsfs_layout.specs.Hash.Dump.{pair_text}

-- names and values, in the order of the names' bytes
abbrev pub Pairs : Type 0
Pairs = List (List ℕ × List ℕ)

-- ---- headers

-- `<name>: <value>`
abbrev pub header : List ℕ → List ℕ → List ℕ
header name value = name ++ codes ": " ++ value ++ codes "\n"

abbrev pub number_header : List ℕ → ℕ → List ℕ
number_header name number = header name (decimal number)

-- a path without its first `/`
abbrev pub dump_path : Path → List ℕ
dump_path path = drop 1 (path_text path)

-- ---- the head of a dump, and the record of a revision

abbrev pub dump_head : List ℕ → List ℕ
dump_head uuid = codes "SVN-fs-dump-format-version: 2\n\nUUID: " ++ uuid ++ codes "\n\n"

-- properties as pairs of a hash dump, with an end of their own
abbrev pub props_block : Pairs → List ℕ
props_block pairs = flat_map pair_text pairs ++ codes "PROPS-END\n"

-- of a revision with this block
abbrev pub revision_text : ℕ → List ℕ → List ℕ
revision_text rev block =
    number_header (codes "Revision-number") rev ++ number_header (codes "Prop-content-length") (length block) ++ number_header (codes "Content-length") (length block) ++ codes "\n" ++ block ++ codes "\n"

abbrev pub revision_record : ℕ → Pairs → List ℕ
revision_record rev pairs = revision_text rev (props_block pairs)

-- ---- the record of a path

abbrev pub kind_word : Kind → List ℕ
kind_word File = codes "file"
kind_word Dir = codes "dir"

-- the revision and the path of a copy's source
abbrev pub source_headers : Option (ℕ × Path) → List ℕ
source_headers None = []
source_headers (Some from) = number_header (codes "Node-copyfrom-rev") from.0 ++ header (codes "Node-copyfrom-path") (dump_path from.1)

-- what stands in front of a text: how long it is, and its digests
pub record TextFacts : Type 0 where
  pub size : ℕ
  pub md5 : List ℕ
  pub sha1 : List ℕ

abbrev pub facts_of : List ℕ → TextFacts
facts_of text = record { size = length text; md5 = md5_of text; sha1 = sha1_of text }

abbrev pub text_headers : Option TextFacts → List ℕ
text_headers None = []
text_headers (Some facts) = number_header (codes "Text-content-length") facts.size ++ header (codes "Text-content-md5") (encode_lower facts.md5) ++ header (codes "Text-content-sha1") (encode_lower facts.sha1)

abbrev pub block_header : Option (List ℕ) → List ℕ
block_header None = []
block_header (Some block) = number_header (codes "Prop-content-length") (length block)

-- the length of both, where one of them stands
abbrev pub length_header : Option (List ℕ) → Option TextFacts → List ℕ
length_header None None = []
length_header None (Some facts) = number_header (codes "Content-length") facts.size
length_header (Some block) None = number_header (codes "Content-length") (length block)
length_header (Some block) (Some facts) = number_header (codes "Content-length") (length block + facts.size)

-- what the path is, and what happened to it
abbrev pub what_headers : Path → List ℕ → Kind → Option (ℕ × Path) → List ℕ
what_headers path action kind source = header (codes "Node-path") (dump_path path) ++ header (codes "Node-kind") (kind_word kind) ++ header (codes "Node-action") action ++ source_headers source

-- the lengths and digests of what follows, and the block
abbrev pub size_headers : Option (List ℕ) → Option TextFacts → List ℕ
size_headers block facts = block_header block ++ text_headers facts ++ length_header block facts ++ codes "\n" ++ unwrap_or block []

-- all before the text, by the block of properties and the facts of the text, where they stand
abbrev pub record_head : Path → List ℕ → Kind → Option (ℕ × Path) → Option (List ℕ) → Option TextFacts → List ℕ
record_head path action kind source block facts = what_headers path action kind source ++ size_headers block facts

abbrev pub record_end : List ℕ
record_end = codes "\n\n"

abbrev pub delete_record : Path → List ℕ
delete_record path = header (codes "Node-path") (dump_path path) ++ header (codes "Node-action") (codes "delete") ++ codes "\n\n\n"

-- what a replace takes away comes first
abbrev pub delete_first : Action → Path → List ℕ
delete_first Replace path = delete_record path
delete_first Add path = []
delete_first Modify path = []
delete_first Delete path = []

abbrev pub action_word : Action → List ℕ
action_word Add = codes "add"
action_word Replace = codes "add"
action_word Modify = codes "change"
action_word Delete = codes "delete"

-- the records of a path but for its text and what follows
abbrev pub records_head : Path → Action → Kind → Option (ℕ × Path) → Option (List ℕ) → Option TextFacts → List ℕ
records_head path action kind source block facts = delete_first action path ++ record_head path (action_word action) kind source block facts

-- the records of a path that isn't deleted: with properties where they were set, with a text where it was set
abbrev pub change_records : Path → Action → Kind → Option (ℕ × Path) → Option Pairs → Option (List ℕ) → List ℕ
change_records path action kind source pairs text = records_head path action kind source (option_map props_block pairs) (option_map facts_of text) ++ unwrap_or text [] ++ record_end
