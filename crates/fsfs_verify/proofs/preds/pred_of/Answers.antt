use Rattle.std.proofs.Common.{arith, inl}
use Rattle.std.proofs.lemmas.Result.{err_from_is_err_and}
use Rattle.fsfs_revision.specs.Shows.Chains.{IsPred, Breaks}
use Rattle.fsfs_revision.specs.Shows.Reading.{OfId}
use Rattle.fsfs_dag.specs.declared.node.PlacedNode.{PlacedNode}
use Rattle.fsfs_verify.specs.Preds.{IsWrongPred}
use Rattle.fsfs_verify.proofs.ChainLemmas.{pred_id_up_to}
use Rattle.fsfs_verify.proofs.Findings.{wrong_as}
use Rattle.fsfs_verify.proofs.preds.pred_of.Goals as goal

pub returns-in_err-pred-in-Some-clause-told : goal.returns-in_err-pred-in-Some-clause-told
returns-in_err-pred-in-Some-clause-told g c = λ look knows.
    let p = err_from_is_err_and c.from_residual.result c.from_residual.ensures.1 in
    let v = c.args.node.now.node in
    let le = pred_id_up_to v c.in-Some.id c.args.node.now.ordered c.in-Some.is in
    rw (p.1, p.2) (wrong_as (λ (found : PlacedNode). found.node) (OfId look c.in-Some.id) (IsWrongPred look v) c.in_err-pred-in-Some.field-0.0 (λ w h. inl (Breaks v c.in-Some.id w c.in-Some.is h))
    (c.in_err-pred-in-Some.ensures.told look (λ r lower. knows r (omega (arith, lower, le)))))

pub returns-in_err-check_goes_on-in-Some-clause-told : goal.returns-in_err-check_goes_on-in-Some-clause-told
returns-in_err-check_goes_on-in-Some-clause-told g c = λ look knows.
    let p = err_from_is_err_and c.from_residual-in_err-check_goes_on-in-Some.result c.from_residual-in_err-check_goes_on-in-Some.ensures.1 in
    let le = pred_id_up_to c.args.node.now.node c.in-Some.id c.args.node.now.ordered c.in-Some.is in
    rw (p.1, p.2) (c.in_err-check_goes_on-in-Some.ensures.told look (c.in-Some.id, c.in-Some.is, c.in_ok-pred-in-Some.ensures.told look (λ r lower. knows r (omega (arith, lower, le)))))

pub returns-in_ok-check_goes_on-in-Some-clause-told : goal.returns-in_ok-check_goes_on-in-Some-clause-told
returns-in_ok-check_goes_on-in-Some-clause-told g c = λ look knows.
    let le = pred_id_up_to c.args.node.now.node c.in-Some.id c.args.node.now.ordered c.in-Some.is in
    let pred : IsPred look c.args.node.now.node c.in_ok-pred-in-Some.pred.node = (c.in-Some.id, c.in-Some.is, c.in_ok-pred-in-Some.ensures.told look (λ r lower. knows r (omega (arith, lower, le)))) in
    (pred, c.in_ok-check_goes_on-in-Some.ensures.told look pred)
