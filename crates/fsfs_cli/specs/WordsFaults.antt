-- The fault of words of which one means no path.
use Rattle.fsfs_base.specs.declared.paths.bad_path.PathError.{PathError}
use Rattle.fsfs_base.specs.declared.paths.bad_path.PathError.TheVariants.{Bad, OutOfMemory}
use Rattle.fsfs_cli.specs.declared.faults.words_fault.WordsFault.{WordsFault}
use Rattle.fsfs_cli.specs.declared.faults.words_fault.WordsFault.TheVariants.{BadPath, Memory}

abbrev pub fault_from : PathError → WordsFault
fault_from (Bad bad) = BadPath bad
fault_from OutOfMemory = Memory
