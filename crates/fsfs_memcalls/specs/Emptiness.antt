-- Where nothing stands below a path.
use Rattle.std.specs.Prelude.{◌≡◌, ℕ, List, true, false, None}
use Rattle.fsfs_folders.specs.System.Paths.{is_below}
use Rattle.fsfs_folders.specs.System.CallRecord.{Standing}

-- nothing stands at a path, if it is below another
abbrev pub IsClearAt : Standing → List ℕ → List ℕ → Type 0
IsClearAt names above q = is_below above q ≡ true → (names.folders q ≡ false) × (names.files q ≡ None)
