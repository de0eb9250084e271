use Rattle.std.proofs.Common.{◌≡◌, ◌++◌, length}
use Rattle.fsfs_machine.specs.Machine.{labels_left}
use Rattle.fsfs_machine.proofs.labels.pick_labels.Given as goal

abbrev pub invariant-loop-label : goal.invariant-loop-label
invariant-loop-label l = l.out.items ++ labels_left l.rest l.labels.items ≡ labels_left l.picks l.fn.labels.items

abbrev pub decreases-loop-label : goal.decreases-loop-label
decreases-loop-label l = length l.labels.items
