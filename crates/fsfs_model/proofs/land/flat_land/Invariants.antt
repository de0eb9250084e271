use Rattle.std.proofs.Common.{◌≡◌, ◌⊎◌, true, None}
use Rattle.std.specs.List.{list_any}
use Rattle.std.specs.Ordering.{eq_by_cmp}
use Rattle.std.specs.FinMap as map
use Rattle.fsfs_base.specs.Paths.{Path, path_cmp}
use Rattle.fsfs_model.specs.Flat.Landing.{land}
use Rattle.fsfs_model.proofs.land.flat_land.Given as goal

-- each path is done, or nothing stands there yet and it is still to come
abbrev pub invariant-loop-path : goal.invariant-loop-path
invariant-loop-path l = (q : Path) →
    (map.get l.tree q ≡ land (map.get l.fn.base) (map.get l.fn.head) (map.get l.fn.own) l.fn.marks l.fn.n q)
    ⊎ ((map.get l.tree q ≡ None) × (list_any (eq_by_cmp path_cmp q) l.path-iterator ≡ true))
