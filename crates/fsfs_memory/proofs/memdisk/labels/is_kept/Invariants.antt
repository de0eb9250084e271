use Rattle.std.proofs.Common.{◌≡◌}
use Rattle.std.specs.VecDeque.Iter.{deque_iter_rest}
use Rattle.fsfs_disk.specs.Labels.{label_of, has_label}
use Rattle.fsfs_memory.specs.Memdisk.Stored.{labels_of}
use Rattle.fsfs_memory.proofs.memdisk.labels.is_kept.Given as goal

abbrev pub invariant-loop-kept : goal.invariant-loop-kept
invariant-loop-kept l = has_label (label_of l.label) (labels_of (deque_iter_rest l.kept-iterator)) ≡ has_label (label_of l.label) (labels_of l.labels.items)
