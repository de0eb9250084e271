use Rattle.std.proofs.Common.{◌≡◌, ◌||◌}
use Rattle.std.specs.Prelude.{is_some}
use Rattle.std.specs.List.{list_any}
use Rattle.std.specs.Ordering.{eq_by_cmp}
use Rattle.std.specs.FinMap as map
use Rattle.std.specs.BTreeSet as set
use Rattle.fsfs_base.specs.Paths.{Path, path_cmp}
use Rattle.fsfs_tree.proofs.tree.Tree.add_paths.Given as goal

abbrev pub invariant-loop-path : goal.invariant-loop-path
invariant-loop-path l = (q : Path) → (set.contains path_cmp l.all q || list_any (eq_by_cmp path_cmp q) l.path-iterator) ≡ (set.contains path_cmp l.fn.all q || is_some (map.get l.fn.self q))
