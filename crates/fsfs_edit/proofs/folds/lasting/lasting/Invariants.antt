use Rattle.std.proofs.Common.{length}
use Rattle.indexmap.specs.IndexSet.{contains_text}
use Rattle.fsfs_edit.proofs.LastingLemmas.{IsLasting}
use Rattle.fsfs_edit.proofs.folds.lasting.lasting.Given as goal

abbrev pub invariant-loop-left : goal.invariant-loop-left
invariant-loop-left l = IsLasting l.items l.left l.found.items (contains_text l.deleted)

abbrev pub decreases-loop-left : goal.decreases-loop-left
decreases-loop-left l = length l.left
