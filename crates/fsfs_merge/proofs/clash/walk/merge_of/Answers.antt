use Rattle.std.proofs.Common.{Err, sym, subst, arith}
use Rattle.std.proofs.lemmas.Result.{err_from_is_err_and}
use Rattle.fsfs_revision.proofs.Keeping.{keeps_trans}
use Rattle.fsfs_revision.specs.Damage.Readings.{AndThen}
use Rattle.fsfs_revision.proofs.Answering.{stops, goes_on}
use Rattle.fsfs_noderev.specs.declared.node_rev.NodeRev.{NodeRev}
use Rattle.fsfs_dag.specs.declared.node.PlacedNode.{PlacedNode}
use Rattle.fsfs_revision.specs.Shows.Reading.{RootOf}
use Rattle.fsfs_base.specs.declared.fields.txn_name.TxnName.{TxnName}
use Rattle.fsfs_draft.specs.Walks.{IsRootId}
use Rattle.fsfs_merge.specs.declared.clash.walk.Roots.{Roots}
use Rattle.fsfs_merge.specs.Clash.Merges.{MergeRooted}
use Rattle.fsfs_merge.specs.Clash.Points.{IsSeenFrom}
use Rattle.fsfs_merge.proofs.Stepping.{this, answers_from}
use Rattle.fsfs_merge.proofs.clash.walk.merge_of.Goals as goal

pub returns-in_err-x-clause-told : goal.returns-in_err-x-clause-told
returns-in_err-x-clause-told g c = λ look top see knows le_b le_h.
    let r = err_from_is_err_and c.from_residual.result c.from_residual.ensures.1 in
    let Next = MergeRooted look top (g.N.Own.txn c.args.own.now) (g.N.Own.folder c.args.own.now) c.args.base in
    rw (r.1, r.2) (stops (λ (found : PlacedNode). found.node) this c.in_err-x.field-0.0 (RootOf look c.args.base) (λ (x : NodeRev). AndThen (RootOf look c.args.head) (λ (y : NodeRev). Next x y see))
    (c.in_err-x.ensures.told look (λ n le. knows n (omega (arith, le, le_b)))))

pub returns-in_err-y-clause-told : goal.returns-in_err-y-clause-told
returns-in_err-y-clause-told g c = λ look top see knows le_b le_h.
    let r = err_from_is_err_and c.from_residual-in_err-y.result c.from_residual-in_err-y.ensures.1 in
    let Next = MergeRooted look top (g.N.Own.txn c.args.own.now) (g.N.Own.folder c.args.own.now) c.args.base in
    let x = c.in_ok-x.x.node in
    rw (r.1, r.2) (goes_on this (Err c.in_err-y.field-0.0) (RootOf look c.args.base) (λ (x : NodeRev). AndThen (RootOf look c.args.head) (λ (y : NodeRev). Next x y see)) x (c.in_ok-x.ensures.told look (λ n le. knows n (omega (arith, le, le_b))))
    (stops (λ (found : PlacedNode). found.node) this c.in_err-y.field-0.0 (RootOf look c.args.head) (λ (y : NodeRev). Next x y see)
    (c.in_err-y.ensures.told look (λ n le. c.in_ok-x.ensures.kept.revs n (look n) (knows n (omega (arith, le, le_h)))))))

pub returns-in_err-y-clause-kept : goal.returns-in_err-y-clause-kept
returns-in_err-y-clause-kept g c = keeps_trans _ _ _ c.in_ok-x.ensures.kept c.in_err-y.ensures.kept

pub returns-clause-told : goal.returns-clause-told
returns-clause-told g c = λ look top see knows le_b le_h.
    let txn = g.N.Own.txn c.args.own.now in
    let f = g.N.Own.folder c.args.own.now in
    let Next = MergeRooted look top txn f c.args.base in
    let x = c.in_ok-x.x.node in
    let y = c.in_ok-y.y.node in
    let result = c.merge_below.result in
    goes_on this result (RootOf look c.args.base) (λ (x : NodeRev). AndThen (RootOf look c.args.head) (λ (y : NodeRev). Next x y see)) x (c.in_ok-x.ensures.told look (λ n le. knows n (omega (arith, le, le_b))))
    (goes_on this result (RootOf look c.args.head) (λ (y : NodeRev). Next x y see) y (c.in_ok-y.ensures.told look (λ n le. c.in_ok-x.ensures.kept.revs n (look n) (knows n (omega (arith, le, le_h)))))
    (answers_from look top txn f c.args.base x y c.root_id-mine.result see result (subst (λ (t : TxnName). IsRootId t c.root_id-mine.result) c.name.ensures c.root_id-mine.ensures)
    (λ from. c.merge_below.ensures.told look top see (λ n le. c.in_ok-y.ensures.kept.revs n (look n) (c.in_ok-x.ensures.kept.revs n (look n) (knows n le))) (subst (λ (roots : Roots). IsSeenFrom look top f c.args.base roots see) (sym c.roots_of-roots.ensures) from))))

pub returns-clause-kept : goal.returns-clause-kept
returns-clause-kept g c = keeps_trans _ _ _ c.in_ok-x.ensures.kept (keeps_trans _ _ _ c.in_ok-y.ensures.kept c.merge_below.ensures.kept)
