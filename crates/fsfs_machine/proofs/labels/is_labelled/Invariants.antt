use Rattle.std.proofs.Common.{◌≡◌}
use Rattle.std.specs.VecDeque.Iter.{deque_iter_rest}
use Rattle.fsfs_machine.specs.Machine.{has_label}
use Rattle.fsfs_machine.proofs.labels.is_labelled.Given as goal

abbrev pub invariant-loop-label : goal.invariant-loop-label
invariant-loop-label l = has_label l.name (deque_iter_rest l.label-iterator) ≡ has_label l.name l.labels.items
