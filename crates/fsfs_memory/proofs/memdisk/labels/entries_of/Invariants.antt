use Rattle.std.proofs.Common.{◌≡◌, ◌++◌}
use Rattle.std.specs.VecDeque.Iter.{deque_iter_rest}
use Rattle.fsfs_disk.specs.Labels.{txn_entries}
use Rattle.fsfs_memory.specs.Memdisk.Stored.{labels_of}
use Rattle.fsfs_memory.proofs.memdisk.labels.entries_of.Given as goal

abbrev pub invariant-loop-label : goal.invariant-loop-label
invariant-loop-label l = l.names.items ++ txn_entries (labels_of (deque_iter_rest l.label-iterator)) ≡ txn_entries (labels_of l.labels.items)
