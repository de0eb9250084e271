use Rattle.std.proofs.Common.{length}
use Rattle.fsfs_base.proofs.grammar.decimals.+decimal_rest.Given as goal

abbrev pub decreases-decimal_rest : goal.decreases-decimal_rest
decreases-decimal_rest l = length l.bytes.now
