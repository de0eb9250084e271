use Rattle.std.proofs.Common.{◌≡◌, ◌≤◌, true, false, Option, sym, ap, subst, ◌∙◌, inl, inr, arith}
use Rattle.std.specs.Prelude.{Err, Ok, option_map}
use Rattle.std.specs.Borrow.{Bor}
use Rattle.std.proofs.lemmas.Result.{err_from_is_err_and}
use Rattle.fsfs_noderev.specs.declared.node_id.NodeId.{NodeId}
use Rattle.fsfs_revision.specs.Shows.Reading.{MetAt}
use Rattle.fsfs_revision.proofs.Keeping.{keeps_trans}
use Rattle.fsfs_dag.proofs.Steps.{knows_later}
use Rattle.fsfs_dag.specs.Views.{met_value}
use Rattle.fsfs_verify.specs.ItemFaults.{FitsThere, id_met, IsWrongKind, IsWrongAt}
use Rattle.fsfs_verify.proofs.Findings.{wrong_from, wrong_as}
use Rattle.fsfs_verify.proofs.ItemChecks.{sound_item, named_met, false_item, told_either, through_ids}
use Rattle.fsfs_verify.proofs.items.is_true.Goals as goal

pub returns-in_err-check_kind-clause-told : goal.returns-in_err-check_kind-clause-told
returns-in_err-check_kind-clause-told g c = λ look knows are.
    let p = err_from_is_err_and c.from_residual.result c.from_residual.ensures.1 in
    let item = c.args.item.now in
    rw (p.1, p.2) (wrong_from (IsWrongKind look c.args.rev item) (IsWrongAt look c.args.rev item) c.in_err-check_kind.field-0.0 (λ w h. inl h) (c.in_err-check_kind.ensures.told look knows))

pub returns-then-not-has_kind-clause-told : goal.returns-then-not-has_kind-clause-told
returns-then-not-has_kind-clause-told g c = λ look knows are. (inl (c.has_kind.ensures.other c.if-not-has_kind.true), are)

pub returns-in_err-there-clause-told : goal.returns-in_err-there-clause-told
returns-in_err-there-clause-told g c = λ look knows are.
    let p = err_from_is_err_and c.from_residual-in_err-there.result c.from_residual-in_err-there.ensures.1 in
    let item = c.args.item.now in
    rw (p.1, p.2) (wrong_from (λ w. MetAt look c.args.rev item.path (Err w)) (IsWrongAt look c.args.rev item) c.in_err-there.field-0.0 (λ w h. inr h) (c.in_err-there.ensures.told look c.args.rev (knows_later _ _ look c.args.rev c.in_ok-check_kind.ensures.kept knows) are))

pub returns-then-fits-clause-told : goal.returns-then-fits-clause-told
returns-then-fits-clause-told g c = λ look knows are.
    let item = c.args.item.now in
    let kind = c.in_ok-check_kind.ensures.told look knows in
    let there = c.in_ok-there.ensures.told look c.args.rev (knows_later _ _ look c.args.rev c.in_ok-check_kind.ensures.kept knows) are in
    let same : option_map (λ (id : Bor NodeId). id.now) c.as_ref.result ≡ c.in_ok-there.there = through_ids c.as_ref.result ∙ c.as_ref.ensures.value in
    let fit : FitsThere item c.in_ok-there.there = subst (λ (o : Option NodeId). FitsThere item o) same (c.fits.ensures.yes c.if-fits.true) in
    (sound_item look c.args.rev item c.in_ok-there.there there.0 fit kind (c.has_kind.ensures.yes c.if-not-has_kind.false), there.1)

pub returns-in_err-met-clause-told : goal.returns-in_err-met-clause-told
returns-in_err-met-clause-told g c = λ look knows are.
    let p = err_from_is_err_and c.from_residual-in_err-met.result c.from_residual-in_err-met.ensures.1 in
    let item = c.args.item.now in
    let kept = keeps_trans _ _ _ c.in_ok-check_kind.ensures.kept c.in_ok-there.ensures.kept in
    rw (p.1, p.2) (wrong_as met_value (MetAt look c.args.rev item.path) (IsWrongAt look c.args.rev item) c.in_err-met.field-0.0 (λ w h. inr h) (c.in_err-met.ensures.told look (knows_later _ _ look c.args.rev kept knows)))

pub returns-clause-told : goal.returns-clause-told
returns-clause-told g c = λ look knows are.
    let item = c.args.item.now in
    let kind = c.in_ok-check_kind.ensures.told look knows in
    let there = c.in_ok-there.ensures.told look c.args.rev (knows_later _ _ look c.args.rev c.in_ok-check_kind.ensures.kept knows) are in
    let kept = keeps_trans _ _ _ c.in_ok-check_kind.ensures.kept c.in_ok-there.ensures.kept in
    let met = c.in_ok-met.ensures.told look (knows_later _ _ look c.args.rev kept knows) in
    let value = met_value c.in_ok-met.met in (
      told_either look c.args.rev item c.fits_met.result
          (λ yes. sound_item look c.args.rev item (id_met value) (named_met look c.args.rev item value met) (c.fits_met.ensures.yes yes) kind (c.has_kind.ensures.yes c.if-not-has_kind.false))
          (λ no. false_item look c.args.rev item value met (c.fits_met.ensures.other no)),
      there.1,
    )

pub returns-clause-kept : goal.returns-clause-kept
returns-clause-kept g c = keeps_trans _ _ _ (keeps_trans _ _ _ c.in_ok-check_kind.ensures.kept c.in_ok-there.ensures.kept) c.in_ok-met.ensures.kept
