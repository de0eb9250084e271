use Rattle.std.proofs.Common.{◌≡◌, ◌++◌, drop}
use Rattle.fsfs_model.specs.Flat.Marks.{outer, outer_from}
use Rattle.fsfs_model.proofs.flat.mark.outer_marks.Given as goal

-- the outer marks so far, and those of what is left
abbrev pub invariant-loop-mark : goal.invariant-loop-mark
invariant-loop-mark l = l.found.items ++ outer_from l.made.items (drop l.mark-index l.marks) ≡ outer l.marks
