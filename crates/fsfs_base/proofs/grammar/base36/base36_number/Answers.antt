use Rattle.std.proofs.Common.{arith}
use Rattle.fsfs_base.proofs.Numerals.{number_fits}
use Rattle.fsfs_base.proofs.grammar.base36.base36_number.Goals as goal

pub invariant_of-result : goal.invariant_of-result
invariant_of-result c = record { small = omega (arith, number_fits 36 170581728179578208255 c.args.end c.args.bytes.now c.in_ok-number.number c.in_ok-number.rest.now c.in_ok-number.ensures) }
