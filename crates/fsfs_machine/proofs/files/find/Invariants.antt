use Rattle.std.proofs.Common.{◌≡◌}
use Rattle.std.specs.VecDeque.Iter.{deque_iter_rest}
use Rattle.fsfs_machine.specs.Disk.{found}
use Rattle.fsfs_machine.proofs.files.find.Given as goal

abbrev pub invariant-loop-change : goal.invariant-loop-change
invariant-loop-change l = found (deque_iter_rest l.change-iterator) l.name ≡ found l.disk.items l.name
