use Rattle.std.proofs.Common.{Err, Ok, arith}
use Rattle.std.proofs.lemmas.Result.{err_from_is_err_and}
use Rattle.fsfs_revision.specs.Told.{RevisionBytes}
use Rattle.fsfs_noderev.specs.declared.node_rev.NodeRev.{NodeRev}
use Rattle.fsfs_revision.specs.declared.damage.RevOffset.{RevOffset}
use Rattle.fsfs_revision.specs.Damage.Readings.{Answers}
use Rattle.fsfs_revision.specs.Shows.Reading.{NodeAt, HasId, HasKind, OfId, offset_of}
use Rattle.fsfs_dag.specs.Seen.{IsSeen}
use Rattle.fsfs_revision.specs.Told.{IsTold}
use Rattle.fsfs_dag.specs.Views.{entry_value}
use Rattle.fsfs_dag.specs.declared.node.PlacedNode.{PlacedNode}
use Rattle.fsfs_revision.proofs.Answering.{stops, goes_on, err_as}
use Rattle.fsfs_dag.proofs.Windows.{along}
use Rattle.fsfs_dag.proofs.seen_bytes.child_seen.Goals as goal

pub returns-in-Err-clause-told : goal.returns-in-Err-clause-told
returns-in-Err-clause-told g c = λ look knows seen.
    let e = c.in-Err.error in
    let at = offset_of c.args.entry.now.id.place in
    let read = along (λ (a : RevOffset). (l : RevisionBytes) → IsTold (g.B.Book.told c.args.book.now) l a.rev → IsSeen l c.args.seen.now → Answers (λ (v : NodeRev). v) (NodeAt l a) (Err e)) c.offset_of.result at c.offset_of.ensures c.in-Err.ensures.told in
    stops (λ (found : PlacedNode). found.node) (λ (found : PlacedNode). found.node) e (OfId look c.args.entry.now.id) (HasKind (entry_value c.args.entry.now)) (stops (λ (v : NodeRev). v) (λ (found : PlacedNode). found.node) e (NodeAt look at) (HasId c.args.entry.now.id) (read look (knows at.rev (omega arith)) seen))

pub returns-in-Err-clause-seen : goal.returns-in-Err-clause-seen
returns-in-Err-clause-seen g c = λ look knows seen.
    let at = offset_of c.args.entry.now.id.place in
    along (λ (a : RevOffset). (l : RevisionBytes) → IsTold (g.B.Book.told c.args.book.now) l a.rev → IsSeen l c.args.seen.now → IsSeen l c.node_seen.new.seen) c.offset_of.result at c.offset_of.ensures c.in-Err.ensures.seen look (knows at.rev (omega arith)) seen

pub returns-in_err-check_id-in-Ok-clause-told : goal.returns-in_err-check_id-in-Ok-clause-told
returns-in_err-check_id-in-Ok-clause-told g c = λ look knows seen.
    let p = err_from_is_err_and c.from_residual.result c.from_residual.ensures.1 in
    let e = c.in_err-check_id-in-Ok.field-0.0 in
    let at = offset_of c.args.entry.now.id.place in
    let v = c.in-Ok.node in
    let read = along (λ (a : RevOffset). (l : RevisionBytes) → IsTold (g.B.Book.told c.args.book.now) l a.rev → IsSeen l c.args.seen.now → NodeAt l a (Ok v)) c.offset_of.result at c.offset_of.ensures c.in-Ok.ensures.told in
    let node = read look (knows at.rev (omega arith)) seen in
    let named = err_as (λ (u : Unit {0}). v) (λ (found : PlacedNode). found.node) e (HasId c.args.entry.now.id v) c.in_err-check_id-in-Ok.ensures.told in
    rw (p.1, p.2) (stops (λ (found : PlacedNode). found.node) (λ (found : PlacedNode). found.node) e (OfId look c.args.entry.now.id) (HasKind (entry_value c.args.entry.now)) (goes_on (λ (found : PlacedNode). found.node) (Err e) (NodeAt look at) (HasId c.args.entry.now.id) v node named))

pub returns-in_err-check_id-in-Ok-clause-seen : goal.returns-in_err-check_id-in-Ok-clause-seen
returns-in_err-check_id-in-Ok-clause-seen g c = λ look knows seen.
    let at = offset_of c.args.entry.now.id.place in
    along (λ (a : RevOffset). (l : RevisionBytes) → IsTold (g.B.Book.told c.args.book.now) l a.rev → IsSeen l c.args.seen.now → IsSeen l c.node_seen.new.seen) c.offset_of.result at c.offset_of.ensures c.in-Ok.ensures.seen look (knows at.rev (omega arith)) seen

pub returns-in_err-check_kind-in-Ok-clause-told : goal.returns-in_err-check_kind-in-Ok-clause-told
returns-in_err-check_kind-in-Ok-clause-told g c = λ look knows seen.
    let p = err_from_is_err_and c.from_residual-in_err-check_kind-in-Ok.result c.from_residual-in_err-check_kind-in-Ok.ensures.1 in
    let e = c.in_err-check_kind-in-Ok.field-0.0 in
    let at = offset_of c.args.entry.now.id.place in
    let v = c.in-Ok.node in
    let read = along (λ (a : RevOffset). (l : RevisionBytes) → IsTold (g.B.Book.told c.args.book.now) l a.rev → IsSeen l c.args.seen.now → NodeAt l a (Ok v)) c.offset_of.result at c.offset_of.ensures c.in-Ok.ensures.told in
    let node = read look (knows at.rev (omega arith)) seen in
    let kind = err_as (λ (u : Unit {0}). v) (λ (found : PlacedNode). found.node) e (HasKind (entry_value c.args.entry.now) v) c.in_err-check_kind-in-Ok.ensures.told in
    rw (p.1, p.2) (goes_on (λ (found : PlacedNode). found.node) (Err e) (OfId look c.args.entry.now.id) (HasKind (entry_value c.args.entry.now)) v (v, node, c.in_ok-check_id-in-Ok.ensures.told) kind)

pub returns-in_err-check_kind-in-Ok-clause-seen : goal.returns-in_err-check_kind-in-Ok-clause-seen
returns-in_err-check_kind-in-Ok-clause-seen g c = λ look knows seen.
    let at = offset_of c.args.entry.now.id.place in
    along (λ (a : RevOffset). (l : RevisionBytes) → IsTold (g.B.Book.told c.args.book.now) l a.rev → IsSeen l c.args.seen.now → IsSeen l c.node_seen.new.seen) c.offset_of.result at c.offset_of.ensures c.in-Ok.ensures.seen look (knows at.rev (omega arith)) seen

pub returns-in_ok-check_kind-in-Ok-clause-told : goal.returns-in_ok-check_kind-in-Ok-clause-told
returns-in_ok-check_kind-in-Ok-clause-told g c = λ look knows seen.
    let at = offset_of c.args.entry.now.id.place in
    let v = c.in-Ok.node in
    let read = along (λ (a : RevOffset). (l : RevisionBytes) → IsTold (g.B.Book.told c.args.book.now) l a.rev → IsSeen l c.args.seen.now → NodeAt l a (Ok v)) c.offset_of.result at c.offset_of.ensures c.in-Ok.ensures.told in
    let node = read look (knows at.rev (omega arith)) seen in
    (v, (v, node, c.in_ok-check_id-in-Ok.ensures.told), c.in_ok-check_kind-in-Ok.ensures.told)

pub returns-in_ok-check_kind-in-Ok-clause-seen : goal.returns-in_ok-check_kind-in-Ok-clause-seen
returns-in_ok-check_kind-in-Ok-clause-seen g c = λ look knows seen.
    let at = offset_of c.args.entry.now.id.place in
    along (λ (a : RevOffset). (l : RevisionBytes) → IsTold (g.B.Book.told c.args.book.now) l a.rev → IsSeen l c.args.seen.now → IsSeen l c.node_seen.new.seen) c.offset_of.result at c.offset_of.ensures c.in-Ok.ensures.seen look (knows at.rev (omega arith)) seen
