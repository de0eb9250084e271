-- What the data of a disk in memory tell.
use Rattle.std.specs.Prelude.{List, map, Bool, true, false, Option, Some, None}
use Rattle.std.specs.Global.{Global}
use Rattle.std.specs.declared.collections.VecDeque.{VecDeque}
use Rattle.fsfs_disk.specs.declared.label.Label as code
use Rattle.fsfs_disk.specs.Labels.{Label, label_of}
use Rattle.fsfs_disk.specs.Trace.{NameChange, Operation}
use Rattle.fsfs_disk.specs.Trace.NameChange.{Put, Adopt, Rename, Remove, FirmNames, KeepLabel, DropLabel}
use Rattle.fsfs_disk.specs.Trace.Operation.{Done, Attempted}
use Rattle.fsfs_memory.specs.Memdisk.MemFiles.{content}
use Rattle.fsfs_memory.specs.declared.memdisk.operations.MemOperation.{MemOperation}
use Rattle.fsfs_memory.specs.declared.memdisk.operations.MemChange.{MemChange}
use Rattle.fsfs_memory.specs.declared.memdisk.operations.MemChange.TheVariants as stored

abbrev pub change_of : MemChange → NameChange
change_of (stored.Put file) = Put file.name (content file.bytes)
change_of (stored.Adopt file) = Adopt file.name (content file.bytes)
change_of (stored.Rename from to) = Rename from to
change_of (stored.Remove name) = Remove name
change_of stored.FirmNames = FirmNames
change_of (stored.KeepLabel label) = KeepLabel (label_of label)
change_of (stored.DropLabel label) = DropLabel (label_of label)

abbrev pub operation_by : Bool → NameChange → Operation
operation_by true change = Done change
operation_by false change = Attempted change

abbrev pub operation_of : MemOperation → Operation
operation_of operation = operation_by operation.done (change_of operation.change)

abbrev pub operations_of : List MemOperation → List Operation
operations_of operations = map operation_of operations

abbrev pub labels_of : List code.Label → List Label
labels_of labels = map label_of labels

-- new labels, or those from before
abbrev pub labels_or : Option (VecDeque code.Label Global) → List code.Label → List Label
labels_or None labels = labels_of labels
labels_or (Some left) labels = labels_of left.items
