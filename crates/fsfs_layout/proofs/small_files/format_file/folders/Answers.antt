use Rattle.std.proofs.Common.{arith}
use Rattle.fsfs_layout.proofs.Files.{count_fits}
use Rattle.fsfs_layout.proofs.small_files.format_file.folders.Goals as goal

pub overflow_cast-result : goal.overflow_cast-result
overflow_cast-result c = omega (arith, count_fits _ _ _ c.in_ok-number.ensures)
