-- What a bench that tells nothing knows of its files.
use Rattle.std.specs.Prelude.{ℕ, List, length, Bool, true, not, ◌&&◌, ◌||◌, ◌==◌, Option, Some, None, is_some}
use Rattle.std.specs.FinMap.{get}
use Rattle.fsfs_base.specs.Files.{Files}
use Rattle.fsfs_disk.specs.Benches.{bytes_in}

-- where the bench below tells its files, and there is a file that was written last, it is there; and where it was made firm since, it is firm to its end
abbrev pub is_last : Option Files → (List ℕ → ℕ) → Option (List ℕ) → Bool → Bool
is_last None firm_to last is_firm = true
is_last (Some m) firm_to None is_firm = true
is_last (Some m) firm_to (Some name) is_firm = is_some (get m name) && (not is_firm || (firm_to name == length (bytes_in m name)))
