use Rattle.std.proofs.Common.{length}
use Rattle.fsfs_memcalls.proofs.crash.+left_file.Given as goal

abbrev pub decreases-left_file : goal.decreases-left_file
decreases-left_file l = length l.calls.now
