use Rattle.std.proofs.Common.{◌+◌, ◌%◌, ◌/◌, arith}
use Rattle.fsfs_base.proofs.Numerals.{appends_one, appends_more, digit-decimal}
use Rattle.fsfs_base.proofs.grammar.decimals.+put_dec.Goals as goal

pub returns-then-n-lt10 : goal.returns-then-n-lt10
returns-then-n-lt10 t c = appends_one 10 c.args.n (48 + c.args.n) _ _ (omega arith) (digit-decimal c.args.n (omega arith)) c.in_ok-push.ensures.items

pub returns : goal.returns
returns t c =
    let d = digit-decimal (c.args.n % 10) (omega arith) in
    appends_more 10 c.args.n (c.args.n / 10) (48 + c.args.n % 10) _ _ _ (omega arith) (omega arith) (omega (arith, d)) (omega (arith, d)) c.in_ok-put_dec.ensures c.in_ok-push-2.ensures.items
