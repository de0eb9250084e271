use Rattle.std.proofs.Common.{◌≡◌, ◌⊎◌, true, false}
use Rattle.std.specs.List.{list_any}
use Rattle.std.specs.List.Sorted.{IsStrictlySortedBy}
use Rattle.std.specs.Ordering.{eq_by_cmp}
use Rattle.std.specs.FinMap as map
use Rattle.fsfs_base.specs.Paths.{Path, path_cmp}
use Rattle.fsfs_model.specs.Flat.Landing.{is_clash}
use Rattle.fsfs_model.proofs.clash.flat_clash.Given as goal

-- each path is known not to clash, or still to come; and what is to come rises
abbrev pub invariant-loop-path : goal.invariant-loop-path
invariant-loop-path l = record {
  done : (q : Path) → (is_clash l.fn.b (map.get l.fn.base) (map.get l.fn.head) (map.get l.fn.own) l.fn.marks q ≡ false) ⊎ (list_any (eq_by_cmp path_cmp q) l.path-iterator ≡ true);
  rising : IsStrictlySortedBy path_cmp l.path-iterator;
}
