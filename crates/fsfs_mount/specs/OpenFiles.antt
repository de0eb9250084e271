-- What is known of the files that stay open.
use Rattle.std.specs.Prelude.{◌≡◌, ℕ, List, true, Option, All}
use Rattle.fsfs_folders.specs.System.CallRecord.{CallRecord}
use Rattle.fsfs_folders.specs.OpenFiles.{is_file_of, is_still}

-- each file that is open, the one used last and the others, still has the name that it was opened by
abbrev pub AreStill : {A : Type 0} → Option A → List A → (A → List ℕ) → (A → ℕ) → Option CallRecord → Type 0
AreStill last others name_of number_of calls = (is_still last name_of number_of calls ≡ true) × All (λ opened. is_file_of calls (name_of opened) (number_of opened) ≡ true) others
