use Rattle.std.proofs.Common.{◌≡◌, ◌++◌}
use Rattle.fsfs_tree.specs.Revisions.{tree_of}
use Rattle.fsfs_tree.specs.PathHistories.{path_history, history_within}
use Rattle.fsfs_model.proofs.history.flat_history.Given as goal

-- the points so far, and those to come
abbrev pub invariant-loop-left : goal.invariant-loop-left
invariant-loop-left l = l.points.items ++ history_within l.left (tree_of l.history) l.rev l.path ≡ path_history (tree_of l.history) l.fn.rev l.fn.path

abbrev pub decreases-loop-left : goal.decreases-loop-left
decreases-loop-left l = l.left
