use Rattle.std.proofs.Common.{length}
use Rattle.fsfs_memcalls.proofs.crash.+keep.Given as goal

abbrev pub decreases-keep : goal.decreases-keep
decreases-keep l = length l.calls.now
