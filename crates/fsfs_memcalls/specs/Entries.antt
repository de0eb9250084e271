-- The name that a path has next below a folder.
use Rattle.std.specs.Prelude.{◌≡◌, ℕ, List, [], ◌∷◌, ◌++◌, Bool, true, false}
use Rattle.fsfs_folders.specs.System.Paths.{has_path, has_slash, within}
use Rattle.fsfs_folders.specs.System.Listing.{is_entry, are_apart}

-- the path is that of no name without a slash in the folder
abbrev pub IsElsewhere : List ℕ → List ℕ → Type 0
IsElsewhere folder path = (name : List ℕ) → has_slash name ≡ false → within folder name ≡ path → ⊥

-- it is that of this name alone
pub record IsPartBelow (folder path name : List ℕ) : Type 0 where
  pub plain : has_slash name ≡ false
  pub here : within folder name ≡ path
  pub only : (other : List ℕ) → has_slash other ≡ false → within folder other ≡ path → other ≡ name

abbrev pub IsNoEntry : List ℕ → List ℕ → Type 0
IsNoEntry folder path = (name : List ℕ) → is_entry name ≡ true → within folder name ≡ path → ⊥

-- it is that of this name, which a listing has, and of no other
pub record IsEntryAt (folder path name : List ℕ) : Type 0 where
  pub is : is_entry name ≡ true
  pub here : within folder name ≡ path
  pub only : (other : List ℕ) → is_entry other ≡ true → within folder other ≡ path → other ≡ name

-- a listing of the paths that were met
pub record IsListSoFar (is_such : List ℕ → Bool) (folder : List ℕ) (paths found : List (List ℕ)) : Type 0 where
  pub each : (name : List ℕ) → has_path found name ≡ true → (is_entry name ≡ true) × (is_such (within folder name) ≡ true)
  pub all : (name : List ℕ) → is_entry name ≡ true → is_such (within folder name) ≡ true → has_path paths (within folder name) ≡ true → has_path found name ≡ true
  pub once : are_apart found ≡ true

-- a listing that goes on with one path more
abbrev pub Lists : (List ℕ → Bool) → List ℕ → List ℕ → List (List ℕ) → List (List ℕ) → Type 0
Lists is_such folder path old new = (paths : List (List ℕ)) → IsListSoFar is_such folder paths old → IsListSoFar is_such folder (paths ++ path ∷ []) new
