-- What stands next below a folder.
use Rattle.std.specs.Prelude.{◌≡◌, ℕ, List, [], ◌∷◌, length, Bool, true, false, not, nat_le, ◌&&◌, is_some}
use Rattle.fsfs_folders.specs.System.Paths.{has_path, has_slash, within}
use Rattle.fsfs_folders.specs.System.CallRecord.{Standing}

-- a name that a listing has: at most 128 bytes, none of them a slash
abbrev pub is_entry : List ℕ → Bool
is_entry [] = false
is_entry (c ∷ cs) = not (has_slash (c ∷ cs)) && nat_le (length (c ∷ cs)) 128

-- no two of these are the same
abbrev pub are_apart : List (List ℕ) → Bool
are_apart [] = true
are_apart (p ∷ ps) = not (has_path ps p) && are_apart ps

abbrev pub has_file : Standing → List ℕ → Bool
has_file names path = is_some (names.files path)

-- the names next below a folder whose paths are such, each once, in no order
pub record IsListOf (is_such : List ℕ → Bool) (folder : List ℕ) (found : List (List ℕ)) : Type 0 where
  pub each : (name : List ℕ) → has_path found name ≡ true → (is_entry name ≡ true) × (is_such (within folder name) ≡ true)
  pub all : (name : List ℕ) → is_entry name ≡ true → is_such (within folder name) ≡ true → has_path found name ≡ true
  pub once : are_apart found ≡ true
