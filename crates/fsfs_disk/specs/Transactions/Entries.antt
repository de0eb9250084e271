-- The names of transactions' folders among those that a folder has.
use Rattle.std.specs.Prelude.{ℕ, List, [], ◌∷◌, ◌++◌, ◌-◌, ◌&&◌, length, take, codes, if◌then◌else◌}
use Rattle.std.specs.Str.{bytes_eq}
use Rattle.fsfs_disk.specs.Transactions.Txns.{is_name}

-- what stands before the last four bytes
abbrev pub front_of : List ℕ → List ℕ
front_of entry = take (length entry - 4) entry

-- the name before `.txn`, where it is that of a transaction
abbrev pub name_at : List ℕ → List (List ℕ)
name_at entry = if is_name (front_of entry) && bytes_eq (front_of entry ++ codes ".txn") entry then front_of entry ∷ [] else []
