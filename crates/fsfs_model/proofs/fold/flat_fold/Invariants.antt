use Rattle.std.proofs.Common.{◌≡◌, ◌⊎◌, true, None}
use Rattle.std.specs.List.{list_any}
use Rattle.std.specs.Ordering.{eq_by_cmp}
use Rattle.std.specs.FinMap as map
use Rattle.fsfs_base.specs.Paths.{Path, path_cmp}
use Rattle.fsfs_model.specs.Flat.Folding.{fold}
use Rattle.fsfs_model.proofs.fold.flat_fold.Given as goal

-- each path is done, or nothing is said of it yet and it is still to come
abbrev pub invariant-loop-path : goal.invariant-loop-path
invariant-loop-path l = (q : Path) →
    (map.get l.changes q ≡ fold l.fn.marks q)
    ⊎ ((map.get l.changes q ≡ None) × (list_any (eq_by_cmp path_cmp q) l.path-iterator ≡ true))
