use Rattle.std.proofs.Common.{◌≡◌, ℕ, List, length, None}
use Rattle.indexmap.specs.IndexMap.{get_by_text}
use Rattle.fsfs_edit.specs.Folds.Lasting.{lasting, say_all_by_key}
use Rattle.fsfs_edit.specs.Folds.Views.{told}
use Rattle.fsfs_edit.proofs.LastingLemmas.{items_found}
use Rattle.fsfs_edit.proofs.folds.folding.said_of.Given as goal

-- what is left says the rest
abbrev pub invariant-loop-item : goal.invariant-loop-item
invariant-loop-item l = (key : List ℕ) → say_all_by_key key (told (get_by_text l.said key)) (items_found l.left.items) ≡ say_all_by_key key None (lasting l.items)

abbrev pub decreases-loop-item : goal.decreases-loop-item
decreases-loop-item l = length l.left.items
