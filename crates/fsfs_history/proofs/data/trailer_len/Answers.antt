use Rattle.std.proofs.Common.{arith}
use Rattle.fsfs_history.proofs.EndLemmas.{trailer_length}
use Rattle.fsfs_history.proofs.data.trailer_len.Goals as goal

pub returns : goal.returns
returns c = λ text w.
    let long = trailer_length text c.args.trailer.root c.args.trailer.changes w in
    omega (arith, long, c.digits.ensures.count, c.digits-2.ensures.count)
