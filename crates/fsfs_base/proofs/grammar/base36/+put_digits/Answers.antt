use Rattle.std.proofs.Common.{◌/◌, arith}
use Rattle.fsfs_base.proofs.Numerals.{appends_one, appends_more}
use Rattle.fsfs_base.proofs.grammar.base36.+put_digits.Goals as goal

pub returns-then-n-lt36 : goal.returns-then-n-lt36
returns-then-n-lt36 t c = appends_one 36 c.args.n c.digit_char.result _ _ (omega arith) c.digit_char.ensures c.in_ok-push.ensures.items

pub returns : goal.returns
returns t c = appends_more 36 c.args.n (c.args.n / 36) c.digit_char-2.result _ _ _ (omega arith) (omega arith) (omega (arith, c.digit_char-2.ensures)) (omega (arith, c.digit_char-2.ensures)) c.in_ok-put_digits.ensures c.in_ok-push-2.ensures.items
