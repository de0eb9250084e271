use Rattle.std.proofs.Common.{length}
use Rattle.fsfs_memcalls.proofs.paths.+add_files.Given as goal

abbrev pub decreases-add_files : goal.decreases-add_files
decreases-add_files l = length l.files.now
