use Rattle.std.proofs.Common.{◌≡◌, take}
use Rattle.fsfs_model.specs.Flat.Marks.{effects_by}
use Rattle.fsfs_model.proofs.flat.mark.effects_at.Given as goal

abbrev pub invariant-loop-mark : goal.invariant-loop-mark
invariant-loop-mark l = l.effects ≡ effects_by (take l.mark-index l.outer) l.path
