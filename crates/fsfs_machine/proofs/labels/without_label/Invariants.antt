use Rattle.std.proofs.Common.{◌≡◌, ◌++◌, length}
use Rattle.fsfs_machine.specs.Machine.{without}
use Rattle.fsfs_machine.proofs.labels.without_label.Given as goal

abbrev pub invariant-loop-label : goal.invariant-loop-label
invariant-loop-label l = l.out.items ++ without l.name l.labels.items ≡ without l.name l.fn.labels.items

abbrev pub decreases-loop-label : goal.decreases-loop-label
decreases-loop-label l = length l.labels.items
