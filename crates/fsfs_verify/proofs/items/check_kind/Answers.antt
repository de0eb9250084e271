use Rattle.std.proofs.Common.{◌≡◌, ◌≤◌, ℕ, true, false, sym, ◌∙◌, arith}
use Rattle.std.specs.Prelude.{Err}
use Rattle.std.proofs.lemmas.Result.{err_from_is_err_and}
use Rattle.fsfs_revision.specs.Shows.Reading.{OfId}
use Rattle.fsfs_stands.specs.ChangedTexts.{is_nameable}
use Rattle.fsfs_dag.specs.declared.node.PlacedNode.{PlacedNode}
use Rattle.fsfs_verify.specs.ItemFaults.{IsWrongKind}
use Rattle.fsfs_verify.proofs.Findings.{wrong_as}
use Rattle.fsfs_verify.proofs.ItemChecks.{nameable_le, kind_said, kind_unnamed, kind_named, kind_wrong}
use Rattle.fsfs_verify.proofs.items.check_kind.Goals as goal

pub returns-then-is_some-clause-told : goal.returns-then-is_some-clause-told
returns-then-is_some-clause-told g c = λ look knows. kind_said look c.args.rev c.args.item.now (sym c.is_some.ensures ∙ c.if-is_some.true)

pub returns-then-not-is_nameable-clause-told : goal.returns-then-not-is_nameable-clause-told
returns-then-not-is_nameable-clause-told g c = λ look knows. kind_unnamed look c.args.rev c.args.item.now (sym c.is_nameable.ensures ∙ c.if-not-is_nameable.true)

pub returns-in_err-_named-clause-told : goal.returns-in_err-_named-clause-told
returns-in_err-_named-clause-told g c = λ look knows.
    let p = err_from_is_err_and c.from_residual.result c.from_residual.ensures.1 in
    let item = c.args.item.now in
    let nameable : is_nameable c.args.rev item.id ≡ true = sym c.is_nameable.ensures ∙ c.if-not-is_nameable.false in
    let le = nameable_le c.args.rev item.id nameable in
    rw (p.1, p.2) (wrong_as (λ (found : PlacedNode). found.node) (OfId look item.id) (IsWrongKind look c.args.rev item) c.in_err-_named.field-0.0 (kind_wrong look c.args.rev item (sym c.is_some.ensures ∙ c.if-is_some.false) nameable)
    (c.in_err-_named.ensures.told look (λ r lower. knows r (omega (arith, lower, le)))))

pub returns-clause-told : goal.returns-clause-told
returns-clause-told g c = λ look knows.
    let item = c.args.item.now in
    let nameable : is_nameable c.args.rev item.id ≡ true = sym c.is_nameable.ensures ∙ c.if-not-is_nameable.false in
    let le = nameable_le c.args.rev item.id nameable in
    kind_named look c.args.rev item c.in_ok-_named._named.node (c.in_ok-_named.ensures.told look (λ r lower. knows r (omega (arith, lower, le))))
