use Rattle.std.proofs.Common.{length}
use Rattle.fsfs_base.proofs.grammar.base36.+number_rest.Given as goal

abbrev pub decreases-number_rest : goal.decreases-number_rest
decreases-number_rest l = length l.bytes.now
