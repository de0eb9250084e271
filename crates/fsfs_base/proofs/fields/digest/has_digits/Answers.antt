use Rattle.std.proofs.Common.{arith}
use Rattle.fsfs_base.proofs.DigestTexts.{all_more, all_tested}
use Rattle.fsfs_base.proofs.fields.digest.has_digits.Goals as goal

pub tests-preserved : goal.tests-preserved
tests-preserved c = rw c.is_digit-all.ensures (all_more c.tests.all _ c.args.text.now c.tests.c-index (omega arith) c.tests.invariant)

pub returns : goal.returns
returns c = all_tested c.tests.all _ c.args.text.now c.tests.c-index (omega arith) c.tests.invariant
