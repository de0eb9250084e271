use Rattle.std.proofs.Common.{arith}
use Rattle.fsfs_base.proofs.Numerals.{number_fits}
use Rattle.fsfs_base.specs.Fields.RevNums.{last_rev}
use Rattle.fsfs_base.proofs.fields.rev_num.RevNum.read_ended.Goals as goal

pub overflow_cast-result : goal.overflow_cast-result
overflow_cast-result c = omega (arith, number_fits 10 last_rev c.args.end c.args.bytes.now c.in_ok-number.number c.in_ok-number.rest.now c.in_ok-number.ensures)

pub invariant_of-result : goal.invariant_of-result
invariant_of-result c = number_fits 10 last_rev c.args.end c.args.bytes.now c.in_ok-number.number c.in_ok-number.rest.now c.in_ok-number.ensures
