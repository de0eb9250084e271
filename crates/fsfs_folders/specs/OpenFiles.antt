-- What is known of a file of the repository that is open.
use Rattle.std.specs.Prelude.{ℕ, List, Bool, true, false, not, ◌==◌, ◌&&◌, Option, Some, None}
use Rattle.fsfs_folders.specs.System.CallRecord.{CallRecord, names_now}
use Rattle.fsfs_folders.specs.Told.{is_apart}

abbrev pub is_number : ℕ → Option ℕ → Bool
is_number n None = false
is_number n (Some m) = n == m

-- the file with this name of the repository has this number now
abbrev pub is_file_of : Option CallRecord → List ℕ → ℕ → Bool
is_file_of None name number = true
is_file_of (Some r) name number = not (is_apart name) && is_number number ((names_now r).files name)

-- a file is open, if any, that still has the name that it was opened by
abbrev pub is_still : {A : Type 0} → Option A → (A → List ℕ) → (A → ℕ) → Option CallRecord → Bool
is_still None name_of number_of calls = true
is_still (Some opened) name_of number_of calls = is_file_of calls (name_of opened) (number_of opened)

-- a file of a bench with this name has this number now
abbrev pub is_named : Option CallRecord → List ℕ → ℕ → Bool
is_named None name number = true
is_named (Some r) name number = is_number number ((names_now r).files name)

-- the same of one that is open, if any
abbrev pub is_in_place : {A : Type 0} → Option A → (A → List ℕ) → (A → ℕ) → Option CallRecord → Bool
is_in_place None name_of number_of calls = true
is_in_place (Some opened) name_of number_of calls = is_named calls (name_of opened) (number_of opened)
