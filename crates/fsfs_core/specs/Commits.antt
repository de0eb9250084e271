-- What an edit gives, and what a commit's first call finds and takes.
use Rattle.std.specs.Prelude.{◌≡◌, ℕ, Bool, true, false, ◌&&◌, List, [], ◌∷◌, ◌++◌, Option, Some, None, MatchOption}
use Rattle.std.specs.FinMap.{FinMap, get}
use Rattle.fsfs_base.specs.Paths.{Path, path_cmp}
use Rattle.fsfs_model.specs.declared.flat.edit.Edit.{Edit}
use Rattle.fsfs_model.specs.declared.flat.mark.Mark.{Mark}
use Rattle.fsfs_model.specs.Flat.Edits.{accepts, applied, mark_of, within_limits}
use Rattle.fsfs_tree.specs.Nodes.{Node}
use Rattle.fsfs_tree.specs.Revisions.{Revision, tree_of}
use Rattle.fsfs_tree.specs.Dated.{last_of}
use Rattle.fsfs_machine.specs.declared.machine.Coming.{Coming}
use Rattle.fsfs_machine.specs.declared.machine.Recorded.{Recorded}
use Rattle.fsfs_machine.specs.declared.machine.Txn.{Txn}
use Rattle.fsfs_machine.specs.Machine.{World, Adds, entry_of, without_place}

-- the edit is accepted on the tree, which stays within its limits
abbrev pub is_accepted : Edit → List Revision → FinMap path_cmp Node → Bool
is_accepted edit h own = accepts edit (tree_of h) (last_of h) (get own) && within_limits edit own

-- the tree after an accepted edit, with the edit's mark
abbrev pub GivesEdit : Edit → List Revision → FinMap path_cmp Node → Option (FinMap path_cmp Node × Mark) → Type 0
GivesEdit edit h own o = MatchOption o
    (is_accepted edit h own ≡ false)
    (λ after. (is_accepted edit h own ≡ true) × ((q : Path) → get after.0 q ≡ applied edit (tree_of h) (get own) q) × (after.1 ≡ mark_of edit (tree_of h) (get own)))

-- the revision that committing the transaction adds, where there is such a transaction and it can be added
abbrev pub AddsNext : List Recorded → ℕ → Option Txn → List (List ℕ × List ℕ) → Option Revision → Type 0
AddsNext h p None properties o = o ≡ None
AddsNext h p (Some x) properties o = MatchOption o ((next : Revision) → Adds h (entry_of p x properties) next → ⊥) (λ next. Adds h (entry_of p x properties) next)

-- the transaction is gone and its name is spent; what comes is its entry with the revision and its bytes
abbrev pub IsUsed : World → ℕ → ℕ → List (List ℕ × List ℕ) → Revision → List ℕ → Option Txn → Coming → World → Type 0
IsUsed w p t properties revision bytes None coming v = ⊥
IsUsed w p t properties revision bytes (Some x) coming v =
    (coming ≡ record { entry = entry_of p x properties; revision = revision; bytes = bytes })
    × (v ≡ record w { txns = without_place w.txns t; spent = w.spent ++ x.name ∷ [] })
