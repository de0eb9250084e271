use Rattle.std.proofs.Common.{length}
use Rattle.fsfs_base.proofs.grammar.pieces.+text.Given as goal

abbrev pub decreases-text : goal.decreases-text
decreases-text l = length l.given.now
