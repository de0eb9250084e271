use Rattle.std.proofs.Common.{length}
use Rattle.fsfs_memcalls.proofs.crash.+is_synced.Given as goal

abbrev pub decreases-is_synced : goal.decreases-is_synced
decreases-is_synced l = length l.synced.now
