use Rattle.std.proofs.Common.{Err}
use Rattle.std.proofs.lemmas.Result.{err_from_is_err_and}
use Rattle.fsfs_revision.specs.Shows.Reading.{OfId, HasKind}
use Rattle.fsfs_dag.specs.declared.node.PlacedNode.{PlacedNode}
use Rattle.fsfs_dag.specs.Views.{entry_value}
use Rattle.fsfs_revision.proofs.Answering.{stops, goes_on, err_as}
use Rattle.fsfs_dag.proofs.reading.child_of.Goals as goal

pub returns-in_err-child-clause-told : goal.returns-in_err-child-clause-told
returns-in_err-child-clause-told g c = λ look knows.
    let p = err_from_is_err_and c.from_residual.result c.from_residual.ensures.1 in
    rw (p.1, p.2) (stops (λ (found : PlacedNode). found.node) (λ (found : PlacedNode). found.node) c.in_err-child.field-0.0 (OfId look c.args.entry.now.id) (HasKind (entry_value c.args.entry.now)) (c.in_err-child.ensures.told look knows))

pub returns-in_err-check_kind-clause-told : goal.returns-in_err-check_kind-clause-told
returns-in_err-check_kind-clause-told g c = λ look knows.
    let p = err_from_is_err_and c.from_residual-in_err-check_kind.result c.from_residual-in_err-check_kind.ensures.1 in
    let e = c.in_err-check_kind.field-0.0 in
    let v = c.in_ok-child.child.node in
    let kind = err_as (λ (u : Unit {0}). v) (λ (found : PlacedNode). found.node) e (HasKind (entry_value c.args.entry.now) v) c.in_err-check_kind.ensures.told in
    rw (p.1, p.2) (goes_on (λ (found : PlacedNode). found.node) (Err e) (OfId look c.args.entry.now.id) (HasKind (entry_value c.args.entry.now)) v (c.in_ok-child.ensures.told look knows) kind)

pub returns-clause-told : goal.returns-clause-told
returns-clause-told g c = λ look knows. (c.in_ok-child.child.node, c.in_ok-child.ensures.told look knows, c.in_ok-check_kind.ensures.told)
