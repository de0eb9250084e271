use Rattle.std.proofs.Common.{arith}
use Rattle.fsfs_base.proofs.TxnNameTexts.{name_put}
use Rattle.fsfs_base.proofs.fields.txn_name.put_txn_name.Goals as goal

pub returns : goal.returns
returns c = name_put _ _ _ _ c.args.name.now.base c.args.name.now.number.number (omega (arith, c.args.name.now.number.small))
    c.in_ok-put.ensures c.in_ok-push.ensures.items c.in_ok-put_b36.ensures
