use Rattle.std.proofs.Common.{sym, arith}
use Rattle.fsfs_base.proofs.Numerals.{numeral_found}
use Rattle.fsfs_base.proofs.grammar.base36.plain_base36.Goals as goal

pub invariant_of-result : goal.invariant_of-result
invariant_of-result c = record { small = omega (arith, (numeral_found 36 170581728179578208255 c.args.text.now c.in-Some.number (sym c.in-Some.ensures)).1) }
