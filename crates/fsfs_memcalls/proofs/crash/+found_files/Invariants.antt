use Rattle.std.proofs.Common.{length}
use Rattle.fsfs_memcalls.proofs.crash.+found_files.Given as goal

abbrev pub decreases-found_files : goal.decreases-found_files
decreases-found_files l = length l.paths.now
