use Rattle.std.proofs.Common.{◌≡◌, ◌++◌, List, length, drop}
use Rattle.fsfs_disk.specs.Trace.{files_after}
use Rattle.fsfs_memory.specs.Memdisk.PickedImage.{picked_image}
use Rattle.fsfs_memory.specs.Memdisk.Stored.{operations_of}
use Rattle.fsfs_memory.specs.declared.memdisk.operations.MemOperation.{MemOperation}
use Rattle.fsfs_memory.proofs.memdisk.crash.image.Given as goal

-- some operations were met, the oldest ones
abbrev pub invariant-loop-operation : goal.invariant-loop-operation
invariant-loop-operation l =
    (met : List MemOperation) × (l.operations.items ++ met ≡ l.fn.operations.items) × (l.rest ≡ drop (length (operations_of met)) l.pick)
    × (l.now ≡ files_after l.fn.first (operations_of met)) × (l.left ≡ picked_image l.pick l.fn.first (operations_of met))

abbrev pub decreases-loop-operation : goal.decreases-loop-operation
decreases-loop-operation l = length l.operations.items
