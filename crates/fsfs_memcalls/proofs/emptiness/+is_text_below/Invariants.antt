use Rattle.std.proofs.Common.{length}
use Rattle.fsfs_memcalls.proofs.emptiness.+is_text_below.Given as goal

abbrev pub decreases-is_text_below : goal.decreases-is_text_below
decreases-is_text_below l = length l.above.now
