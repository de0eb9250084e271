use Rattle.std.proofs.Common.{length}
use Rattle.fsfs_revision.proofs.trailer.+find.Given as goal

abbrev pub decreases-find : goal.decreases-find
decreases-find l = length l.bytes.now
