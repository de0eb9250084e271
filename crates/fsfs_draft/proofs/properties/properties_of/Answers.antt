use Rattle.std.proofs.Common.{sym, subst}
use Rattle.std.proofs.lemmas.Result.{err_from_is_err_and}
use Rattle.fsfs_revision.specs.Told.{Knows}
use Rattle.fsfs_revision.proofs.Keeping.{keeps_trans}
use Rattle.fsfs_noderev.specs.declared.node_id.NodeId.{NodeId}
use Rattle.fsfs_revision.specs.Shows.Reading.{Pairs, offset_of, OfId, PropsOf}
use Rattle.fsfs_dag.specs.Views.{home_of}
use Rattle.fsfs_dag.specs.declared.node.PlacedNode.{PlacedNode}
use Rattle.fsfs_revision.proofs.Answering.{stops, goes_on}
use Rattle.fsfs_draft.proofs.properties.properties_of.Goals as goal

pub returns-in_err-found-clause-told : goal.returns-in_err-found-clause-told
returns-in_err-found-clause-told g c = λ look knows.
    let r = err_from_is_err_and c.from_residual.result c.from_residual.ensures.1 in
    rw (r.1, r.2) (stops (λ (n : PlacedNode). n.node) (λ (pairs : Pairs). pairs) c.in_err-found.field-0.0 (OfId look c.args.id.now) (λ u. PropsOf look u) (c.in_err-found.ensures.told look knows))

pub returns-clause-told : goal.returns-clause-told
returns-clause-told g c = λ look knows.
    let v = c.in_ok-found.found.node in
    let later : Knows (g.B.Book.told c.named_node.new.book).revs (home_of v).rev look =
    subst (λ (id : NodeId). Knows (g.B.Book.told c.named_node.new.book).revs (offset_of id.place).rev look) (sym c.in_ok-found.ensures.id) (λ r le. c.in_ok-found.ensures.kept.revs r (look r) (knows r le)) in
    goes_on (λ (pairs : Pairs). pairs) c.props.result (OfId look c.args.id.now) (λ u. PropsOf look u) v (c.in_ok-found.ensures.told look knows) (c.props.ensures.told look later)

pub returns-clause-kept : goal.returns-clause-kept
returns-clause-kept g c = keeps_trans _ _ _ c.in_ok-found.ensures.kept c.props.ensures.kept
