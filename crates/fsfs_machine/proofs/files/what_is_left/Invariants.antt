use Rattle.std.proofs.Common.{◌≡◌, ◌++◌, length}
use Rattle.fsfs_machine.specs.Disk.{left}
use Rattle.fsfs_machine.proofs.files.what_is_left.Given as goal

abbrev pub invariant-loop-change : goal.invariant-loop-change
invariant-loop-change l = l.out.items ++ left l.rest l.disk.items ≡ left l.picks l.fn.disk.items

abbrev pub decreases-loop-change : goal.decreases-loop-change
decreases-loop-change l = length l.disk.items
