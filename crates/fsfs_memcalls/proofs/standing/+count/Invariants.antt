use Rattle.std.proofs.Common.{length}
use Rattle.fsfs_memcalls.proofs.standing.+count.Given as goal

abbrev pub decreases-count : goal.decreases-count
decreases-count l = length l.calls.now
