use Rattle.std.proofs.Common.{length}
use Rattle.fsfs_memcalls.proofs.standing.+bytes_of_first.Given as goal

abbrev pub decreases-bytes_of_first : goal.decreases-bytes_of_first
decreases-bytes_of_first l = length l.files.now
