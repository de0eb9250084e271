use Rattle.std.proofs.Common.{◌≡◌, Bool, [], Some, None, sym, ap, subst, ◌∙◌, arith}
use Rattle.std.proofs.lemmas.Result.{err_from_is_err_and}
use Rattle.fsfs_revision.specs.Told.{Knows}
use Rattle.fsfs_noderev.specs.declared.node_id.NodeId.{NodeId}
use Rattle.fsfs_revision.specs.Shows.Reading.{offset_of}
use Rattle.fsfs_dag.specs.declared.node.PlacedNode.{PlacedNode}
use Rattle.fsfs_draft.specs.Drafts.{Kept}
use Rattle.fsfs_draft.specs.Steps.{kept_at}
use Rattle.fsfs_draft.specs.Views.{kept_value}
use Rattle.fsfs_draft.proofs.OwnEntries.{there_kept, kept_same}
use Rattle.fsfs_txn.specs.Edits.Mergeinfo.{RevisionHas}
use Rattle.fsfs_txn.proofs.Counting.{has_before, base_root, base_has, base_fails}
use Rattle.fsfs_txn.proofs.seeing.base_counts.Goals as goal

pub returns-in_default-clause-draft : goal.returns-in_default-clause-draft
returns-in_default-clause-draft g c = λ look trees top base nodes v knows shown le draft here same dir.
    there_kept look top base trees shown le (g.N.Own.txn c.args.own.now) (g.N.Own.folder c.args.own.now) nodes draft [] v here dir
    (ap (λ (i : NodeId). kept_at (g.N.Own.folder c.args.own.now).nodes i) same ∙ sym c.in_default.ensures)

pub returns-in_default-predecessor-clause-draft : goal.returns-in_default-predecessor-clause-draft
returns-in_default-predecessor-clause-draft g c = λ look trees top base nodes v knows shown le draft here same dir.
    let txn = g.N.Own.txn c.args.own.now in
    let f = g.N.Own.folder c.args.own.now in
    let k = kept_same look top base trees shown le txn f nodes draft [] v here dir c.args.root.now (kept_value c.in-Some.kept.now) same (sym c.in-Some.ensures) in
    let none : v.node.predecessor ≡ None = ap (λ (x : Kept). x.node.predecessor) (sym k) ∙ c.in_default-predecessor.is in
    has_before look top base trees shown le txn f nodes draft v here none

pub returns-in_err-found-clause-draft : goal.returns-in_err-found-clause-draft
returns-in_err-found-clause-draft g c = λ look trees top base nodes v knows shown le draft here same dir.
    let r = err_from_is_err_and c.from_residual.result c.from_residual.ensures.1 in
    let txn = g.N.Own.txn c.args.own.now in
    let f = g.N.Own.folder c.args.own.now in
    let k = kept_same look top base trees shown le txn f nodes draft [] v here dir c.args.root.now (kept_value c.in-Some.kept.now) same (sym c.in-Some.ensures) in
    let id = c.in-Some-predecessor.before in
    let is : v.node.predecessor ≡ Some id = ap (λ (x : Kept). x.node.predecessor) (sym k) ∙ c.in-Some-predecessor.is in
    let within = (base_root look top base trees shown le txn f nodes draft v here id is).within in
    let low : Knows (g.B.Book.told c.args.book.now).revs (offset_of id.place).rev look = λ n h. knows n (omega (arith, h, within)) in
    rw (r.1, r.2) (base_fails look top base trees shown le txn f nodes draft v here id is (λ (n : PlacedNode). n.node) c.in_err-found.field-0.0 (c.in_err-found.ensures.told look low))

pub returns-clause-draft : goal.returns-clause-draft
returns-clause-draft g c = λ look trees top base nodes v knows shown le draft here same dir.
    let txn = g.N.Own.txn c.args.own.now in
    let f = g.N.Own.folder c.args.own.now in
    let k = kept_same look top base trees shown le txn f nodes draft [] v here dir c.args.root.now (kept_value c.in-Some.kept.now) same (sym c.in-Some.ensures) in
    let id = c.in-Some-predecessor.before in
    let is : v.node.predecessor ≡ Some id = ap (λ (x : Kept). x.node.predecessor) (sym k) ∙ c.in-Some-predecessor.is in
    let within = (base_root look top base trees shown le txn f nodes draft v here id is).within in
    let low : Knows (g.B.Book.told c.args.book.now).revs (offset_of id.place).rev look = λ n h. knows n (omega (arith, h, within)) in
    subst (λ (b : Bool). RevisionHas look base [] b) (sym c.has_counts.ensures) (base_has look top base trees shown le txn f nodes draft v here id is c.in_ok-found.found.node (c.in_ok-found.ensures.told look low))
