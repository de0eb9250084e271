use Rattle.std.proofs.Common.{length}
use Rattle.fsfs_memcalls.proofs.crash.+has_left_folder.Given as goal

abbrev pub decreases-has_left_folder : goal.decreases-has_left_folder
decreases-has_left_folder l = length l.calls.now
