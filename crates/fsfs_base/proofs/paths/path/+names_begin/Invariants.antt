use Rattle.std.proofs.Common.{length}
use Rattle.fsfs_base.proofs.paths.path.+names_begin.Given as goal

abbrev pub decreases-names_begin : goal.decreases-names_begin
decreases-names_begin l = length l.above.now
