use Rattle.std.proofs.Common.{◌≡◌, ◌++◌}
use Rattle.std.specs.VecDeque.Iter.{deque_iter_rest}
use Rattle.fsfs_disk.specs.Labels.{label_of, without_label}
use Rattle.fsfs_memory.specs.Memdisk.Stored.{labels_of}
use Rattle.fsfs_memory.proofs.memdisk.labels.without_label.Given as goal

-- the labels that were kept so far, and those that are to come
abbrev pub invariant-loop-kept : goal.invariant-loop-kept
invariant-loop-kept l =
    labels_of l.left.items ++ without_label (label_of l.label) (labels_of (deque_iter_rest l.kept-iterator)) ≡ without_label (label_of l.label) (labels_of l.labels.items)
