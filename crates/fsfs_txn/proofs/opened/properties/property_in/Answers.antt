use Rattle.std.proofs.Common.{List, sym, subst, refl, ◌∙◌}
use Rattle.fsfs_txn.specs.declared.opened.known.Known.{Known}
use Rattle.fsfs_txn.specs.Opened.Knowing.{AreKnown}
use Rattle.std.proofs.lemmas.Result.{err_from_is_err_and}
use Rattle.fsfs_draft.specs.Drafts.{kept_of}
use Rattle.fsfs_edit.proofs.OwnProps.{own_within}
use Rattle.fsfs_edit.proofs.Setting.{kept_there, files, property_set}
use Rattle.fsfs_txn.proofs.TextLemmas.{left_want, left_settle}
use Rattle.std.proofs.Common.{◌≡◌, false}
use Rattle.fsfs_noderev.specs.declared.node_id.NodeId.{NodeId}
use Rattle.fsfs_revision.specs.Nodes.{is_revision_id}
use Rattle.fsfs_txn.specs.Opened.Leading.{IsSourceKnown}
use Rattle.fsfs_txn.proofs.Following.{own_id, known_source}
use Rattle.fsfs_txn.proofs.Staying.{want_all, settle_all, props_set}
use Rattle.fsfs_base.proofs.ResultLemmas.{not_none}
use Rattle.fsfs_txn.proofs.opened.properties.property_in.Goals as goal

pub returns-in_err-pairs-clause-sets : goal.returns-in_err-pairs-clause-sets
returns-in_err-pairs-clause-sets g c = λ look trees top base tree marks known shown le d o has fit.
    let txn = g.N.Own.txn c.args.own.now in
    let first = g.N.Own.settled c.args.own.now in
    let mid = g.N.Own.folder c.args.own.now in
    let p = c.args.way.now.path in
    let there = kept_there look trees top base shown le txn first tree marks d p c.args.kind mid c.args.id.now o has in
    let full = files look trees top base shown le txn first tree marks d p c.args.kind mid c.args.id.now o has in
    let within = own_within look top base trees shown le txn mid o.now o.opened.draft p o.v o.here full in
    let r = err_from_is_err_and c.from_residual.result c.from_residual.ensures.1 in
    rw (r.1, r.2) (left_want c.in_err-pairs.field-0.0 _ _ (c.in_err-pairs.ensures.tells look top (kept_of o.v) (subst (λ (ks : List Known). AreKnown look top ks) (sym c.as_slice.ensures.value) known) there within) refl)

pub returns-in_err-set_props-clause-sets : goal.returns-in_err-set_props-clause-sets
returns-in_err-set_props-clause-sets g c = λ look trees top base tree marks known shown le d o has fit.
    let r = err_from_is_err_and c.from_residual-in_err-set_props.result c.from_residual-in_err-set_props.ensures.1 in
    rw (r.1, r.2) (left_want c.in_err-set_props.field-0.0 _ _ c.in_err-set_props.ensures.cause c.in_err-set_props.ensures.settled)

pub returns-in_err-settle-clause-sets : goal.returns-in_err-settle-clause-sets
returns-in_err-settle-clause-sets g c = λ look trees top base tree marks known shown le d o has fit.
    let r = err_from_is_err_and c.from_residual-in_err-settle.result c.from_residual-in_err-settle.ensures.1 in
    rw (r.1, r.2) (left_settle c.in_err-settle.field-0.0 _ _ (λ h. h ∙ c.in_ok-set_props.ensures.settled) c.in_err-settle.ensures.not_done)

pub returns-clause-sets : goal.returns-clause-sets
returns-clause-sets g c = λ look trees top base tree marks known shown le d o has fit.
    let txn = g.N.Own.txn c.args.own.now in
    let first = g.N.Own.settled c.args.own.now in
    let mid = g.N.Own.folder c.args.own.now in
    let p = c.args.way.now.path in
    let there = kept_there look trees top base shown le txn first tree marks d p c.args.kind mid c.args.id.now o has in
    let full = files look trees top base shown le txn first tree marks d p c.args.kind mid c.args.id.now o has in
    let within = own_within look top base trees shown le txn mid o.now o.opened.draft p o.v o.here full in
    let read = c.in_ok-pairs.ensures.tells look top (kept_of o.v) (subst (λ (ks : List Known). AreKnown look top ks) (sym c.as_slice.ensures.value) known) there within in (
      fit,
      property_set look trees top base shown le txn first tree marks d p c.args.kind mid c.args.id.now o has c.args.name.now c.args.value c.in_ok-pairs.pairs read c.in_ok-all.all c.in_ok-all.ensures
          (g.N.Own.folder c.set_props.new.own) c.in_ok-set_props.ensures.done c.in_ok-item.item c.in_ok-item.ensures (g.N.Own.settled c.settle.new.self) c.in_ok-settle.ensures.done,
    )

-- ---- nothing is lacking, and what leads somewhere leads there still

pub returns-in_err-pairs-clause-all : goal.returns-in_err-pairs-clause-all
returns-in_err-pairs-clause-all g c = λ look trees top base tree marks shown le d o has end.
    let txn = g.N.Own.txn c.args.own.now in
    let first = g.N.Own.settled c.args.own.now in
    let mid = g.N.Own.folder c.args.own.now in
    let p = c.args.way.now.path in
    let there = kept_there look trees top base shown le txn first tree marks d p c.args.kind mid c.args.id.now o has in
    let own = subst (λ (i : NodeId). is_revision_id i ≡ false) o.id_is (own_id o.v.node.id txn (o.opened.draft.places p o.v o.here)) in
    let source = known_source mid.nodes c.args.way.now.known.items c.args.id.now (kept_of o.v) own there end in
    let all = c.in_err-pairs.ensures.all (kept_of o.v) there (subst (λ (ks : List Known). IsSourceKnown ks o.v.node.predecessor) (sym c.as_slice.ensures.value) source) in
    let r = err_from_is_err_and c.from_residual.result c.from_residual.ensures.1 in
    rw (r.1, r.2) all

pub returns-in_err-set_props-clause-all : goal.returns-in_err-set_props-clause-all
returns-in_err-set_props-clause-all g c = λ look trees top base tree marks shown le d o has end.
    let there = kept_there look trees top base shown le (g.N.Own.txn c.args.own.now) (g.N.Own.settled c.args.own.now) tree marks d c.args.way.now.path c.args.kind (g.N.Own.folder c.args.own.now) c.args.id.now o has in
    let r = err_from_is_err_and c.from_residual-in_err-set_props.result c.from_residual-in_err-set_props.ensures.1 in
    rw (r.1, r.2) (want_all c.in_err-set_props.field-0.0 _ c.in_err-set_props.ensures.cause (λ none. not_none _ (kept_of o.v) there none))

pub returns-in_err-settle-clause-all : goal.returns-in_err-settle-clause-all
returns-in_err-settle-clause-all g c = λ look trees top base tree marks shown le d o has end.
    let r = err_from_is_err_and c.from_residual-in_err-settle.result c.from_residual-in_err-settle.ensures.1 in
    rw (r.1, r.2) (settle_all c.in_err-settle.field-0.0)

pub returns-clause-still : goal.returns-clause-still
returns-clause-still g c = λ look trees top base tree marks shown le d o has known path at leads.
    let there = kept_there look trees top base shown le (g.N.Own.txn c.args.own.now) (g.N.Own.settled c.args.own.now) tree marks d c.args.way.now.path c.args.kind (g.N.Own.folder c.args.own.now) c.args.id.now o has in
    props_set look (g.N.Own.folder c.args.own.now) c.args.id.now (kept_of o.v) there (g.N.Own.folder c.set_props.new.own) (g.N.Own.settled c.settle.new.self) c.in_ok-item.item c.in_ok-settle.ensures.done known path at
    c.in_ok-all.all (c.in_ok-set_props.ensures.done (kept_of o.v) there) leads
