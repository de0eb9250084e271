use Rattle.std.proofs.Common.{sym, arith}
use Rattle.fsfs_base.proofs.Numerals.{numeral_found}
use Rattle.fsfs_base.specs.Fields.RevNums.{last_rev}
use Rattle.fsfs_base.proofs.fields.rev_num.RevNum.plain.Goals as goal

pub overflow_cast-result : goal.overflow_cast-result
overflow_cast-result c = omega (arith, (numeral_found 10 last_rev c.args.text.now c.in_ok-number.number (sym c.in_ok-number.ensures)).1)

pub invariant_of-result : goal.invariant_of-result
invariant_of-result c = (numeral_found 10 last_rev c.args.text.now c.in_ok-number.number (sym c.in_ok-number.ensures)).1
