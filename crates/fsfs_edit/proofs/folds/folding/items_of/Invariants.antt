use Rattle.std.proofs.Common.{◌≡◌, ◌++◌, map}
use Rattle.fsfs_edit.specs.Folds.Views.{items_told}
use Rattle.fsfs_edit.proofs.folds.folding.items_of.Given as goal

-- the items so far, and those of the values that are left
abbrev pub invariant-loop-value : goal.invariant-loop-value
invariant-loop-value l = l.items.items ++ items_told l.value-iterator ≡ items_told (map (λ e. e.1) l.said.entries)
