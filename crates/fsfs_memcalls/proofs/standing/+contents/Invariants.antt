use Rattle.std.proofs.Common.{length}
use Rattle.fsfs_memcalls.proofs.standing.+contents.Given as goal

abbrev pub decreases-contents : goal.decreases-contents
decreases-contents l = length l.calls.now
