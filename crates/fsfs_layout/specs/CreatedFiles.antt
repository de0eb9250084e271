-- The files of a new repository: format 4, sharded, with revision 0 alone.
-- Their texts are those of the libsvn_fs_fs structure file; that every list begins empty is this project's profile.
use Rattle.std.specs.Prelude.{◌≡◌, ℕ, List, [], ◌∷◌, ◌++◌, Some, codes, decimal}
use Rattle.std.specs.FinMap.{get, remove}
use Rattle.uuid.specs.Text.{hyphenated_text, lower}
use Rattle.uuid.specs.Parts.{with_version, with_variant}
use Rattle.uuid.specs.declared.Variant.TheVariants.{RFC4122}
use Rattle.uuid.specs.declared.Version.TheVariants.{Random}
use Rattle.fsfs_base.specs.Files.{Files, NamedFile, lay_over}
use Rattle.fsfs_base.specs.FirstRevision.{first_bytes}
use Rattle.fsfs_layout.specs.FileNames.{only_name}
use Rattle.fsfs_layout.specs.declared.only_file.OnlyFile.TheVariants.{RepositoryFormat, Format, FormatNext, FsType, Uuid, Current, MinUnpackedRev, TxnCurrent, TxnCurrentLock, WriteLock}

-- db/format: the format's number, and how many revisions a shard has
abbrev pub format_text : ℕ → List ℕ
format_text shard = codes "4\nlayout sharded " ++ (decimal shard ++ codes "\n")

-- the property list of revision 0: its date alone
abbrev pub date_properties : List ℕ → List ℕ
date_properties date = codes "K 8\nsvn:date\nV 27\n" ++ (date ++ codes "\nEND\n")

-- an identifier as text
abbrev pub identifier_text : List ℕ → List ℕ
identifier_text id = hyphenated_text lower id

-- the version 4 identifier that sixteen random bytes make
abbrev pub random_identifier : List ℕ → List ℕ
random_identifier bits = with_version (with_variant bits RFC4122) Random

-- all files but db/format, by which the others become a repository
abbrev pub unpublished_files : List ℕ → List ℕ → List NamedFile
unpublished_files identifier date =
    (only_name RepositoryFormat, codes "5\n")
    ∷ (only_name FsType, codes "fsfs\n")
    ∷ (only_name Uuid, identifier ++ codes "\n")
    ∷ (only_name Current, codes "0\n")
    ∷ (only_name TxnCurrent, codes "0\n")
    ∷ (only_name MinUnpackedRev, codes "0\n")
    ∷ (only_name WriteLock, [])
    ∷ (only_name TxnCurrentLock, [])
    ∷ (codes "db/revs/0/0", first_bytes)
    ∷ (codes "db/revprops/0/0", date_properties date)
    ∷ []

-- the files of a new repository, from the size of a shard, the identifier's text and the date's text
abbrev pub created_files : ℕ → List ℕ → List ℕ → List NamedFile
created_files shard identifier date = unpublished_files identifier date ++ (only_name Format, format_text shard) ∷ []

-- these files laid over what was there; `db/format-next` is the name under which db/format is written first
abbrev pub created_over : ℕ → List ℕ → List ℕ → Files → Files
created_over shard identifier date m = lay_over (created_files shard identifier date) (remove m (only_name FormatNext))

-- each of these files is there, with just its bytes
abbrev pub Holds : List NamedFile → Files → Type 0
Holds [] m = Unit {0}
Holds (file ∷ files) m = (get m file.0 ≡ Some file.1) × Holds files m
