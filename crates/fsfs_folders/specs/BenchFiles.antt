-- What a bench tells that stands on calls on its folder: the files that stand right in it.
use Rattle.std.specs.Prelude.{◌≡◌, ◌⊎◌, ◌≤◌, ◌+◌, ◌^◌, ℕ, List, [], ◌∷◌, length, false, cond, if◌then◌else◌, Option, Some, None, option_map, unwrap_or}
use Rattle.std.specs.FinMap.{empty}
use Rattle.fsfs_base.specs.Files.{Files, same_text}
use Rattle.fsfs_disk.specs.Benches.{with_file}
use Rattle.fsfs_folders.specs.System.Paths.{has_path}
use Rattle.fsfs_folders.specs.System.Listing.{is_entry}
use Rattle.fsfs_folders.specs.System.Named.{named_paths}
use Rattle.fsfs_folders.specs.System.CallRecord.{CallRecord, Contents, no_contents, names_now, contents_now}

-- what the file with a name has; none where the name is none of a file right in the folder
abbrev pub file_held : CallRecord → List ℕ → Option Contents
file_held r name = if is_entry name then option_map (contents_now r) ((names_now r).files name) else None

-- the same of a file that may be new
abbrev pub file_or_new : CallRecord → List ℕ → Contents
file_or_new r name = unwrap_or (file_held r name) no_contents

abbrev pub bytes_of : Option Contents → Option (List ℕ)
bytes_of file = option_map (λ (c : Contents). c.bytes) file

-- the files of these names
abbrev pub gathered : List (List ℕ) → (List ℕ → Option (List ℕ)) → Files
gathered [] file_of = empty
gathered (name ∷ names) file_of = with_file name (file_of name) (gathered names file_of)

abbrev pub files_held : CallRecord → Files
files_held r = gathered (named_paths r.first r.calls) (λ name. bytes_of (file_held r name))

-- what a bench tells
abbrev pub bench_told : Option CallRecord → Option Files
bench_told calls = option_map files_held calls

abbrev pub firm_part : Option Contents → ℕ
firm_part None = 0
firm_part (Some file) = file.firm

abbrev pub firm_held : Option CallRecord → List ℕ → ℕ
firm_held None name = 0
firm_held (Some r) name = firm_part (file_held r name)

-- this one file changed, to what it says
abbrev pub Sets : List ℕ → (CallRecord → Option Contents) → Option CallRecord → Option CallRecord → Type 0
Sets name file None new = new ≡ None
Sets name file (Some r) None = ⊥
Sets name file (Some r) (Some s) = (q : List ℕ) → file_held s q ≡ cond (same_text q name) (file r) (file_held r q)

-- what a file may have after a call that failed: at most 2^62 bytes, and lost only if it was
pub record Follows (was file : Contents) : Type 0 where
  pub short : length file.bytes ≤ 2 ^ 62
  pub kept : was.is_lost ≡ false → file.is_lost ≡ false

-- this one file was touched, if any: it has some bytes, or is none
abbrev pub SetsAny : List ℕ → Option CallRecord → Option CallRecord → Type 0
SetsAny name old new =
    (new ≡ old)
    ⊎ ((any : CallRecord → Option Contents) × ((r : CallRecord) → old ≡ Some r → (file : Contents) → any r ≡ Some file → Follows (file_or_new r name) file) × Sets name any old new)

-- A file is open at whose end so many bytes may be written. It was made where there was none.
abbrev pub Opens : List ℕ → ℕ → ℕ → Option CallRecord → Option CallRecord → Type 0
Opens name number more None new = new ≡ None
Opens name number more (Some r) None = ⊥
Opens name number more (Some r) (Some s) =
    ((names_now s).files name ≡ Some number) × (contents_now s number ≡ file_or_new r name) × (length (file_or_new r name).bytes + more ≤ 2 ^ 62)
    × ((q : List ℕ) → file_held s q ≡ cond (same_text q name) (Some (file_or_new r name)) (file_held r q))

-- no file is longer than 2^62 bytes
abbrev pub AreShort : Option CallRecord → Type 0
AreShort calls = (r : CallRecord) → calls ≡ Some r → (name : List ℕ) (file : Contents) → file_held r name ≡ Some file → length file.bytes ≤ 2 ^ 62

-- no sync of a file has failed
abbrev pub AreKept : Option CallRecord → Type 0
AreKept calls = (r : CallRecord) → calls ≡ Some r → (name : List ℕ) (file : Contents) → file_held r name ≡ Some file → file.is_lost ≡ false

-- there is no file
abbrev pub HoldsNothing : CallRecord → Type 0
HoldsNothing r = (name : List ℕ) → file_held r name ≡ None

-- of these names no file is there, and all others are as they were
abbrev pub Clears : List (List ℕ) → Option CallRecord → Option CallRecord → Type 0
Clears names None new = new ≡ None
Clears names (Some r) None = ⊥
Clears names (Some r) (Some s) = (q : List ℕ) → (file_held s q ≡ None) ⊎ ((has_path names q ≡ false) × (file_held s q ≡ file_held r q))
