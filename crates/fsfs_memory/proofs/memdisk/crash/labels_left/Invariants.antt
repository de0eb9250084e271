use Rattle.std.proofs.Common.{◌≡◌, ◌++◌}
use Rattle.std.specs.VecDeque.Iter.{deque_iter_rest}
use Rattle.fsfs_memory.specs.Memdisk.PickedImage.{picked_labels}
use Rattle.fsfs_memory.specs.Memdisk.Stored.{labels_of}
use Rattle.fsfs_memory.proofs.memdisk.crash.labels_left.Given as goal

abbrev pub invariant-loop-label : goal.invariant-loop-label
invariant-loop-label l = labels_of l.left.items ++ picked_labels l.rest (labels_of (deque_iter_rest l.label-iterator)) ≡ picked_labels l.pick (labels_of l.labels.items)
