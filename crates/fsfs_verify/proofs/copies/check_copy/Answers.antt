use Rattle.std.proofs.Common.{◌≡◌, Ok, refl, sym, subst, arith, inl, inr}
use Rattle.std.proofs.lemmas.Result.{err_from_is_err_and}
use Rattle.fsfs_revision.specs.Shows.Reading.{Met, MetAt, Stands}
use Rattle.fsfs_revision.proofs.OneWalk.{met_same}
use Rattle.fsfs_dag.specs.Views.{met_value}
use Rattle.fsfs_verify.specs.Copies.{IsWrongCopy}
use Rattle.fsfs_verify.proofs.Findings.{wrong_as}
use Rattle.fsfs_verify.proofs.copies.check_copy.Goals as goal

pub returns-in_err-met-clause-told : goal.returns-in_err-met-clause-told
returns-in_err-met-clause-told g c = λ look begun copied drawn knows le lasting held.
    let p = err_from_is_err_and c.from_residual-in_err-met.result c.from_residual-in_err-met.ensures.1 in
    let from = c.args.source.now in
    rw (p.1, p.2) (wrong_as met_value (MetAt look from.rev from.path) (IsWrongCopy look c.args.rev copied drawn c.args.copy.now.node from) c.in_err-met.field-0.0 (λ w h. inl h)
    (c.in_err-met.ensures.told look (λ r lower. knows r (omega (arith, lower, le)))))

pub returns-then-is_pred-clause-told : goal.returns-then-is_pred-clause-told
returns-then-is_pred-clause-told g c = λ look begun copied drawn knows le lasting held.
    let from = c.args.source.now in
    let brought = c.in_ok-copy_node.ensures.told begun copied drawn lasting held in
    let met = c.in_ok-met.ensures.told look (λ r lower. knows r (omega (arith, lower, le))) in
    let u = c.is_pred.ensures.yes c.if-is_pred.true in
    let stands = subst (λ (m : Met). MetAt look from.rev from.path (Ok m)) u.1 met in
    (record { root = c.is_own_root.ensures.yes c.if-not-is_own_root.false; part = brought.1; source = (u.0, stands, u.2) }, brought.0)

pub returns-clause-told : goal.returns-clause-told
returns-clause-told g c = λ look begun copied drawn knows le lasting held.
    let from = c.args.source.now in
    let met = c.in_ok-met.ensures.told look (λ r lower. knows r (omega (arith, lower, le))) in
    rw c.breaks_rule-else-is_pred.ensures (inr (
      (λ copy. (
          let s = copy.source in
          let same = met_same look from.rev from.path (met_value c.in_ok-met.met) (Stands s.0) met s.1 in
          c.is_pred.ensures.other c.if-is_pred.false s.0 same s.2)),
      refl,
    ))
