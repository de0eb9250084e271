-- The names of transactions' folders among those that a folder has.
use Rattle.std.specs.Prelude.{ℕ, List, [], ◌∷◌, ◌++◌, Bool, is_some, if◌then◌else◌, codes}
use Rattle.fsfs_folders.specs.LabelPaths.{label_at}

-- a name in the folder of transactions that is one of a transaction's folder
abbrev pub is_txn_entry : List ℕ → Bool
is_txn_entry name = is_some (label_at (codes "db/transactions/" ++ name))

abbrev pub txns_among : List (List ℕ) → List (List ℕ)
txns_among [] = []
txns_among (name ∷ names) = if is_txn_entry name then name ∷ txns_among names else txns_among names
