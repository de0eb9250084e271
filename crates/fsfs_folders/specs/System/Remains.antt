-- What a crash may leave: bytes are kept from the sync of their file on, a name from the sync of its folder on, and a rename is
-- one change.
use Rattle.std.specs.Prelude.{◌≡◌, ◌⊎◌, ℕ, ◌<◌, List, [], ◌∷◌, ◌++◌, length, take, Bool, true, false, not, ◌||◌, ◌&&◌}
use Rattle.fsfs_folders.specs.System.Paths.{has_path, folder_of}
use Rattle.fsfs_folders.specs.System.CallRecord.{NameCall, MakeFolder, DropFolder, Create, Take, Rename, Remove, Call, Named, SyncFolder, Beginning, CallRecord, Standing, Contents, first_names, file_count, renamed_by, names_after, contents_now}

-- the folders whose names a change touches
abbrev pub folders_of : NameCall → List (List ℕ)
folders_of (MakeFolder path) = folder_of path ∷ []
folders_of (DropFolder path) = folder_of path ∷ []
folders_of (Create path) = folder_of path ∷ []
folders_of (Take path contents) = folder_of path ∷ []
folders_of (Rename from to) = folder_of from ∷ folder_of to ∷ []
folders_of (Remove path) = folder_of path ∷ []

-- each of these was synced
abbrev pub are_synced : List (List ℕ) → List (List ℕ) → Bool
are_synced synced [] = true
are_synced synced (folder ∷ folders) = has_path synced folder && are_synced synced folders

-- The names that a crash may leave: each change is there or not, in order; it is there where each of its folders was synced
-- after it. `synced` are the folders that were synced after these calls.
abbrev pub AreNamesLeft : Beginning → List (List ℕ) → List Call → Standing → Type 0
AreNamesLeft first synced [] left = left ≡ first_names first
AreNamesLeft first synced (Named change ∷ calls) left =
    ((are_synced synced (folders_of change) ≡ false) × AreNamesLeft first synced calls left)
    ⊎ ((was : Standing) × AreNamesLeft first synced calls was × (left ≡ renamed_by change (file_count first calls) (names_after first calls) was))
AreNamesLeft first synced (SyncFolder folder ∷ calls) left = AreNamesLeft first (folder ∷ synced) calls left
AreNamesLeft first synced (call ∷ calls) left = AreNamesLeft first synced calls left

-- the bytes of a file that a crash may leave: all of them, or the firm ones and any after these
abbrev pub AreBytesLeft : Contents → List ℕ → Type 0
AreBytesLeft file left = (left ≡ file.bytes) ⊎ ((file.firm < length file.bytes) × ((any : List ℕ) × (left ≡ take file.firm file.bytes ++ any)))

-- what a crash after these calls may leave: names, and the bytes of each file by its number
pub record IsLeft (r : CallRecord) (names : Standing) (bytes : ℕ → List ℕ) : Type 0 where
  pub named : AreNamesLeft r.first [] r.calls names
  pub each : (number : ℕ) → AreBytesLeft (contents_now r number) (bytes number)

-- Which changes are of names: all but those of folders that are spared; which are of folders: those of the others.
abbrev pub of_names : (List ℕ → Bool) → NameCall → Bool
of_names is_spared (MakeFolder path) = not (is_spared path)
of_names is_spared (DropFolder path) = not (is_spared path)
of_names is_spared (Create path) = true
of_names is_spared (Take path contents) = true
of_names is_spared (Rename from to) = true
of_names is_spared (Remove path) = true

abbrev pub of_folders : (List ℕ → Bool) → NameCall → Bool
of_folders is_spared (MakeFolder path) = not (is_spared path)
of_folders is_spared (DropFolder path) = not (is_spared path)
of_folders is_spared (Create path) = false
of_folders is_spared (Take path contents) = false
of_folders is_spared (Rename from to) = false
of_folders is_spared (Remove path) = false

-- each change that counts is firm, where these folders were synced after it
abbrev pub are_firm : (NameCall → Bool) → List (List ℕ) → List Call → Bool
are_firm counts synced [] = true
are_firm counts synced (Named change ∷ calls) = (not (counts change) || are_synced synced (folders_of change)) && are_firm counts synced calls
are_firm counts synced (SyncFolder folder ∷ calls) = are_firm counts (folder ∷ synced) calls
are_firm counts synced (call ∷ calls) = are_firm counts synced calls

-- each of these folders is one of those
abbrev pub AreWithin : List (List ℕ) → List (List ℕ) → Type 0
AreWithin folders synced = (q : List ℕ) → has_path folders q ≡ true → has_path synced q ≡ true
