use Rattle.std.proofs.Common.{length}
use Rattle.fsfs_memcalls.proofs.paths.+add_folders.Given as goal

abbrev pub decreases-add_folders : goal.decreases-add_folders
decreases-add_folders l = length l.folders.now
