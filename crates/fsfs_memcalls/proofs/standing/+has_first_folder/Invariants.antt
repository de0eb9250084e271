use Rattle.std.proofs.Common.{length}
use Rattle.fsfs_memcalls.proofs.standing.+has_first_folder.Given as goal

abbrev pub decreases-has_first_folder : goal.decreases-has_first_folder
decreases-has_first_folder l = length l.folders.now
