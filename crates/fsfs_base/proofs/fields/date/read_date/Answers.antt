use Rattle.fsfs_base.proofs.DateReadings.{numbers_of, shown_as, has_numbers}
use Rattle.fsfs_base.proofs.fields.date.read_date.Goals as goal

pub returns-in_err-numbers-clause-only : goal.returns-in_err-numbers-clause-only
returns-in_err-numbers-clause-only c = λ dt w. absurd (c.in_err-numbers.ensures.only (numbers_of c.args.text.now dt w) (shown_as c.args.text.now dt w))

pub returns-clause-only : goal.returns-clause-only
returns-clause-only c = λ dt w. c.date_time.ensures.only dt (has_numbers c.args.text.now dt _ w (c.in_ok-numbers.ensures.only (numbers_of c.args.text.now dt w) (shown_as c.args.text.now dt w)))
