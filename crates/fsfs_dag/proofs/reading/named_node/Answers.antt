use Rattle.std.proofs.Common.{Err, Ok, arith}
use Rattle.std.proofs.lemmas.Result.{err_from_is_err_and}
use Rattle.fsfs_revision.specs.Told.{RevisionBytes}
use Rattle.fsfs_noderev.specs.declared.node_rev.NodeRev.{NodeRev}
use Rattle.fsfs_revision.specs.declared.damage.RevOffset.{RevOffset}
use Rattle.fsfs_revision.specs.Damage.Readings.{Answers}
use Rattle.fsfs_revision.specs.Shows.Reading.{NodeAt, HasId, offset_of}
use Rattle.fsfs_revision.specs.Told.{IsTold}
use Rattle.fsfs_dag.specs.declared.node.PlacedNode.{PlacedNode}
use Rattle.fsfs_revision.proofs.Answering.{stops, goes_on, err_as}
use Rattle.fsfs_dag.proofs.Windows.{along}
use Rattle.fsfs_dag.proofs.reading.named_node.Goals as goal

pub returns-in_err-node-clause-told : goal.returns-in_err-node-clause-told
returns-in_err-node-clause-told g c = λ look knows.
    let p = err_from_is_err_and c.from_residual.result c.from_residual.ensures.1 in
    let e = c.in_err-node.field-0.0 in
    let at = offset_of c.args.id.now.place in
    let read = along (λ (a : RevOffset). (seen : RevisionBytes) → IsTold (g.B.Book.told c.args.book.now) seen a.rev → Answers (λ (v : NodeRev). v) (NodeAt seen a) (Err e)) c.offset_of.result at c.offset_of.ensures c.in_err-node.ensures.told in
    rw (p.1, p.2) (stops (λ (v : NodeRev). v) (λ (found : PlacedNode). found.node) e (NodeAt look at) (HasId c.args.id.now) (read look (knows at.rev (omega arith))))

pub returns-in_err-check_id-clause-told : goal.returns-in_err-check_id-clause-told
returns-in_err-check_id-clause-told g c = λ look knows.
    let p = err_from_is_err_and c.from_residual-in_err-check_id.result c.from_residual-in_err-check_id.ensures.1 in
    let e = c.in_err-check_id.field-0.0 in
    let v = c.in_ok-node.node in
    let at = offset_of c.args.id.now.place in
    let read = along (λ (a : RevOffset). (seen : RevisionBytes) → IsTold (g.B.Book.told c.args.book.now) seen a.rev → NodeAt seen a (Ok v)) c.offset_of.result at c.offset_of.ensures c.in_ok-node.ensures.told in
    let named = err_as (λ (u : Unit {0}). v) (λ (found : PlacedNode). found.node) e (HasId c.args.id.now v) c.in_err-check_id.ensures.told in
    rw (p.1, p.2) (goes_on (λ (found : PlacedNode). found.node) (Err e) (NodeAt look at) (HasId c.args.id.now) v (read look (knows at.rev (omega arith))) named)

pub returns-clause-told : goal.returns-clause-told
returns-clause-told g c = λ look knows.
    let v = c.in_ok-node.node in
    let at = offset_of c.args.id.now.place in
    let read = along (λ (a : RevOffset). (seen : RevisionBytes) → IsTold (g.B.Book.told c.args.book.now) seen a.rev → NodeAt seen a (Ok v)) c.offset_of.result at c.offset_of.ensures c.in_ok-node.ensures.told in
    (v, read look (knows at.rev (omega arith)), c.in_ok-check_id.ensures.told)
