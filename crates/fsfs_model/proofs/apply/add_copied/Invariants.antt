use Rattle.std.proofs.Common.{◌≡◌, ◌⊎◌, ◌++◌, true}
use Rattle.std.specs.Prelude.{is_some}
use Rattle.std.specs.List.{list_any}
use Rattle.std.specs.Ordering.{eq_by_cmp}
use Rattle.std.specs.BTreeSet as set
use Rattle.fsfs_base.specs.Paths.{Path, path_cmp, covers}
use Rattle.fsfs_model.specs.Flat.Edits.{rest_after}
use Rattle.fsfs_tree.specs.Revisions.{tree_of}
use Rattle.fsfs_model.proofs.apply.add_copied.Given as goal

-- what was there stays, and each path that the copy puts something at is there, or its source is still to come
abbrev pub invariant-loop-source : goal.invariant-loop-source
invariant-loop-source l = record {
  keeps : (q : Path) → set.contains path_cmp l.fn.all q ≡ true → set.contains path_cmp l.all q ≡ true;
  adds : (q : Path) → covers l.fn.to q ≡ true → is_some (tree_of l.fn.history l.fn.rev (l.fn.from ++ rest_after l.fn.to q)) ≡ true
      → (set.contains path_cmp l.all q ≡ true) ⊎ (list_any (eq_by_cmp path_cmp (l.fn.from ++ rest_after l.fn.to q)) l.source-iterator ≡ true);
}
