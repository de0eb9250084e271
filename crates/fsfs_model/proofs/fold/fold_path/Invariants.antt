use Rattle.std.proofs.Common.{◌≡◌, drop}
use Rattle.fsfs_model.specs.Flat.Folding.{fold_from}
use Rattle.std.specs.Prelude.{None}
use Rattle.fsfs_model.proofs.fold.fold_path.Given as goal

-- what is said so far, and the marks that are left
abbrev pub invariant-loop-mark : goal.invariant-loop-mark
invariant-loop-mark l = fold_from l.path l.so_far (drop l.mark-index l.marks) ≡ fold_from l.path None l.marks
