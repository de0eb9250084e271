-- What a host in memory tells.
use Rattle.std.specs.Prelude.{◌≡◌, ℕ, List, Option, Some, None, option_map}
use Rattle.std.specs.BTreeMap.{get_by_text}
use Rattle.fsfs_disk.specs.Trace.{Trace}
use Rattle.fsfs_memory.specs.Memdisk.MemDisk.{trace_of, disk_in}
use Rattle.fsfs_memory.specs.declared.memdisk.host.MemHost.{MemHost}

-- the trace of the disk that stands at a path
abbrev pub trace_at : MemHost → List ℕ → Option Trace
trace_at host path = option_map trace_of (disk_in (get_by_text host.disks path))

-- the place of a path is there, and empty
abbrev pub IsOut : MemHost → List ℕ → Type 0
IsOut host path = get_by_text host.disks path ≡ Some None
