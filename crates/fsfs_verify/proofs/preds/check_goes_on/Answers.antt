use Rattle.std.proofs.Common.{refl, inr}
use Rattle.fsfs_verify.specs.Preds.{IsWrongPred}
use Rattle.fsfs_revision.specs.Damage.Readings.{IfWrong}
use Rattle.fsfs_verify.proofs.preds.check_goes_on.Goals as goal

pub returns-else-goes_on-clause-told : goal.returns-else-goes_on-clause-told
returns-else-goes_on-clause-told c = λ look pred.
    rw c.breaks_off.ensures (inr ((c.args.pred.now.node, pred, c.goes_on.ensures.other c.if-goes_on.false), refl))
