-- The words of the faults that an answer may tell of: the name of each, and its values, a space before each.
use Rattle.std.specs.Prelude.{ℕ, List, ◌∷◌, ◌++◌, codes, decimal}
use Rattle.fsfs_base.specs.Paths.{Path, path_text}

abbrev pub not_found : List ℕ
not_found = codes "NotFound"

abbrev pub not_dir : List ℕ
not_dir = codes "NotDir"

abbrev pub not_file : List ℕ
not_file = codes "NotFile"

abbrev pub no_rev : List ℕ
no_rev = codes "NoRev"

abbrev pub already_repo : List ℕ
already_repo = codes "AlreadyRepo"

abbrev pub not_repo : List ℕ
not_repo = codes "NotRepo"

abbrev pub delta : List ℕ
delta = codes "Delta"

abbrev pub path_value : Path → List ℕ
path_value path = 32 ∷ path_text path

abbrev pub two_numbers : ℕ → ℕ → List ℕ
two_numbers first second = (32 ∷ decimal first) ++ 32 ∷ decimal second
