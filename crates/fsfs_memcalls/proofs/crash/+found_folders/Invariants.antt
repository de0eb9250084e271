use Rattle.std.proofs.Common.{length}
use Rattle.fsfs_memcalls.proofs.crash.+found_folders.Given as goal

abbrev pub decreases-found_folders : goal.decreases-found_folders
decreases-found_folders l = length l.paths.now
