use Rattle.std.proofs.Common.{◌∙◌}
use Rattle.fsfs_base.proofs.DateReadings.{none_again, written_again, not_same}
use Rattle.fsfs_base.proofs.fields.date.date_numbers.Goals as goal

pub returns-in_err-numbers-clause-only : goal.returns-in_err-numbers-clause-only
returns-in_err-numbers-clause-only c = λ n w. absurd (none_again c.args.text.now n w c.in_err-numbers.ensures)

pub returns-else-eq-clause-only : goal.returns-else-eq-clause-only
returns-else-eq-clause-only c = λ n w. not_same c.eq.result c.as_slice.result.now c.args.text.now c.eq.ensures c.if-eq.false (written_again c.args.text.now c.as_slice.result.now n _ w c.in_ok-numbers.ensures (c.as_slice.ensures ∙ c.text.ensures))
