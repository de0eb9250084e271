-- Why a file was not read as a whole.
use Rattle.fsfs_disk.specs.declared.whole_files.file_fault.FileFault.{FileFault}
use Rattle.fsfs_disk.specs.declared.whole_files.file_fault.FileFault.TheVariants.{Failed, Memory}

-- a fact for a failure of the disk
abbrev pub IfFailed : Type 0 → FileFault → Type 0
IfFailed P Failed = P
IfFailed P Memory = Unit {0}
