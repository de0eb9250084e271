-- What the commands on transactions answer, from the transactions that a repository has, which no history tells. A transaction is its base
-- and its number. (That a removal ends at the first name of which there is none is this project's own: Subversion's goes on.)
use Rattle.std.specs.Prelude.{ℕ, List, [], ◌∷◌, ◌++◌, ◌==◌, ◌&&◌, ◌||◌, Bool, false, Option, Some, None, codes, if◌then◌else◌}
use Rattle.std.specs.List.{flat_map}
use Rattle.fsfs_tree.specs.FaultWords.{not_repo}
use Rattle.fsfs_tree.specs.Answers.{Reply, prints, refuses}
use Rattle.fsfs_cli.specs.Lines.{no_txn, txn_value}

-- svnadmin refused: the name of the fault and its values, and the status
abbrev pub refuses_admin : List ℕ → ℕ → Reply
refuses_admin fault = refuses (codes "svnadmin: " ++ fault ++ codes "\n")

-- ---- a listing

-- a line for each name
abbrev pub names_text : List (List ℕ) → List ℕ
names_text names = flat_map (λ name. name ++ codes "\n") names

-- `lstxns`, of the names of the transactions in the order of their bytes; none where there is no repository at the path
abbrev pub ListingAnswer : Option (List (List ℕ)) → Reply
ListingAnswer None = refuses_admin not_repo 1
ListingAnswer (Some names) = prints (names_text names)

-- ---- a removal

abbrev pub same_txn : ℕ × ℕ → ℕ × ℕ → Bool
same_txn a b = (a.0 == b.0) && (a.1 == b.1)

abbrev pub has_txn : ℕ × ℕ → List (ℕ × ℕ) → Bool
has_txn txn [] = false
has_txn txn (x ∷ xs) = same_txn x txn || has_txn txn xs

abbrev pub without_txn : ℕ × ℕ → List (ℕ × ℕ) → List (ℕ × ℕ)
without_txn txn [] = []
without_txn txn (x ∷ xs) = if same_txn x txn then without_txn txn xs else x ∷ without_txn txn xs

-- the first of these that is not there, as they are removed in turn
abbrev pub first_missing : List (ℕ × ℕ) → List (ℕ × ℕ) → Option (ℕ × ℕ)
first_missing [] there = None
first_missing (txn ∷ txns) there = if has_txn txn there then first_missing txns (without_txn txn there) else Some txn

abbrev pub removal_reply : Option (ℕ × ℕ) → Reply
removal_reply None = prints []
removal_reply (Some txn) = refuses_admin (no_txn ++ txn_value txn) 1

-- `rmtxns` of these transactions, in this order, where those are there; none where there is no repository at the path
abbrev pub RemovalAnswer : List (ℕ × ℕ) → Option (List (ℕ × ℕ)) → Reply
RemovalAnswer txns None = refuses_admin not_repo 1
RemovalAnswer txns (Some there) = removal_reply (first_missing txns there)
