-- What a disk in memory tells.
use Rattle.std.specs.Prelude.{[], Option, Some, None}
use Rattle.std.specs.FinMap.{empty}
use Rattle.fsfs_disk.specs.Trace.{Trace}
use Rattle.fsfs_memory.specs.Memdisk.Stored.{operations_of, labels_of}
use Rattle.fsfs_memory.specs.declared.memdisk.disk.MemDisk.{MemDisk}

abbrev pub trace_of : MemDisk → Trace
trace_of disk = record { first = disk.first; labels = labels_of disk.first_labels.items; operations = operations_of disk.operations.items }

-- what a new disk tells
abbrev pub empty_trace : Trace
empty_trace = record { first = empty; labels = []; operations = [] }

-- the disk of a place for one, which may be empty
abbrev pub disk_in : Option (Option MemDisk) → Option MemDisk
disk_in None = None
disk_in (Some place) = place
