use Rattle.std.proofs.Common.{◌≡◌, take}
use Rattle.std.specs.List.{list_any}
use Rattle.std.specs.BTreeSet as set
use Rattle.fsfs_base.specs.Paths.{Path, path_cmp, same_path}
use Rattle.fsfs_model.proofs.fold.marked_paths.Given as goal

-- the paths so far
abbrev pub invariant-loop-mark : goal.invariant-loop-mark
invariant-loop-mark l = (q : Path) → set.contains path_cmp l.all q ≡ list_any (λ m. same_path m.path q) (take l.mark-index l.marks)
