use Rattle.std.proofs.Common.{◌≡◌, true, Ok, Err, refl, sym, subst, ◌∙◌}
use Rattle.std.proofs.lemmas.Result.{err_from_is_err_and}
use Rattle.std.proofs.lemmas.Option.{same_Some}
use Rattle.fsfs_base.specs.declared.kind.Kind.{Kind}
use Rattle.fsfs_model.specs.Flat.Edits.{bytes_of, fits_value}
use Rattle.fsfs_base.specs.declared.fields.txn_name.TxnName.{TxnName}
use Rattle.fsfs_draft.specs.Drafts.{Folder}
use Rattle.fsfs_draft.specs.Walks.{HasKind}
use Rattle.fsfs_edit.specs.Ways.{IsOpenedAt}
use Rattle.fsfs_txn.specs.Opened.Reached.{ReachesTo}
use Rattle.fsfs_txn.specs.Opened.Properties.{SetsProp}
use Rattle.fsfs_txn.proofs.ReachedLemmas.{kind_there}
use Rattle.fsfs_txn.proofs.TextLemmas.{left_want}
use Rattle.fsfs_noderev.specs.declared.node_id.NodeId.{NodeId}
use Rattle.fsfs_txn.specs.Opened.Leading.{LeadsDown}
use Rattle.fsfs_txn.specs.Opened.Reached.{ReachesKnown, ReachesStill}
use Rattle.fsfs_txn.specs.Opened.Properties.{SetsAll, SetsStill}
use Rattle.fsfs_txn.proofs.Staying.{want_all, same_leads, prop_leads, set_each}
use Rattle.fsfs_txn.proofs.opened.properties.property_steps.Goals as goal

pub returns-in_err-id-clause-meets : goal.returns-in_err-id-clause-meets
returns-in_err-id-clause-meets g c = λ look trees top base tree marks known shown le is_tree d.
    let mid = g.N.Own.folder c.reached.new.own in
    let way = c.args.way.now in
    let opens : ReachesTo (g.N.Own.txn c.args.own.now) (g.N.Own.settled c.args.own.now) mid way.known.items way.path (Err c.in_err-id.field-0.0) =
    subst (λ (h : Folder). ReachesTo (g.N.Own.txn c.args.own.now) h mid way.known.items way.path (Err c.in_err-id.field-0.0)) c.requires.whole c.in_err-id.ensures.opens in
    let r = err_from_is_err_and c.from_residual.result c.from_residual.ensures.1 in
    rw (r.1, r.2) (left_want c.in_err-id.field-0.0 _ _ (opens look trees top base tree marks known shown le is_tree d) c.in_err-id.ensures.settled)

pub returns-in-Some-clause-meets : goal.returns-in-Some-clause-meets
returns-in-Some-clause-meets g c = λ look trees top base tree marks known shown le is_tree d.
    let txn = g.N.Own.txn c.args.own.now in
    let first = g.N.Own.settled c.args.own.now in
    let mid = g.N.Own.folder c.reached.new.own in
    let way = c.args.way.now in
    let kind = c.in-Some.kind in
    let opens : ReachesTo txn first mid way.known.items way.path (Ok c.in_ok-id.id) = subst (λ (h : Folder). ReachesTo txn h mid way.known.items way.path (Ok c.in_ok-id.id)) c.requires.whole c.in_ok-id.ensures.opens in
    let o = opens look trees top base tree marks known shown le is_tree d in
    let there = kind_there look trees top base shown le txn first tree marks d way.path o.0 mid c.in_ok-id.id o.2 in
    let same : o.0 ≡ kind = same_Some o.0 kind (sym there ∙ sym c.in-Some.ensures) in
    let fit : fits_value (bytes_of c.args.value) ≡ true = sym c.if-not-fits.ensures in
    let sets : SetsProp txn first mid (g.N.Own.settled c.property_in.new.own) way c.in_ok-id.id kind c.args.name.now c.args.value c.property_in.result =
    subst (λ (t : TxnName). SetsProp t first mid (g.N.Own.settled c.property_in.new.own) way c.in_ok-id.id kind c.args.name.now c.args.value c.property_in.result) c.in_ok-id.ensures.name
    (subst (λ (h : Folder). SetsProp (g.N.Own.txn c.reached.new.own) h mid (g.N.Own.settled c.property_in.new.own) way c.in_ok-id.id kind c.args.name.now c.args.value c.property_in.result) c.in_ok-id.ensures.settled c.property_in.ensures.sets) in
    sets look trees top base tree marks known shown le d
    (subst (λ (k : Kind). IsOpenedAt look trees top base txn marks tree d.0.shows.own way.path k mid c.in_ok-id.id) same o.2)
    (subst (λ (k : Kind). HasKind (tree way.path) k) same o.1) fit

pub returns-then-not-fits-clause-meets : goal.returns-then-not-fits-clause-meets
returns-then-not-fits-clause-meets g c = λ look trees top base tree marks known shown le is_tree d. (sym c.if-not-fits.ensures, refl)

-- ---- nothing is lacking, and what leads somewhere leads there still

pub returns-in_err-id-clause-all : goal.returns-in_err-id-clause-all
returns-in_err-id-clause-all g c = λ look trees top base tree marks known shown le is_tree d leads.
    let knows : ReachesKnown (g.N.Own.txn c.args.own.now) (g.N.Own.settled c.args.own.now) (g.N.Own.folder c.reached.new.own) c.args.way.now (Err c.in_err-id.field-0.0) =
    subst (λ (h : Folder). ReachesKnown (g.N.Own.txn c.args.own.now) h (g.N.Own.folder c.reached.new.own) c.args.way.now (Err c.in_err-id.field-0.0)) c.requires.whole c.in_err-id.ensures.leads in
    let r = err_from_is_err_and c.from_residual.result c.from_residual.ensures.1 in
    rw (r.1, r.2) (want_all c.in_err-id.field-0.0 ⊥ (knows look trees top base tree marks known shown le is_tree d leads) (λ x. x))

pub returns-in-None-clause-all : goal.returns-in-None-clause-all
returns-in-None-clause-all g c = λ look trees top base tree marks known shown le is_tree d leads.
    let txn = g.N.Own.txn c.args.own.now in
    let first = g.N.Own.settled c.args.own.now in
    let mid = g.N.Own.folder c.reached.new.own in
    let way = c.args.way.now in
    let opens : ReachesTo txn first mid way.known.items way.path (Ok c.in_ok-id.id) = subst (λ (h : Folder). ReachesTo txn h mid way.known.items way.path (Ok c.in_ok-id.id)) c.requires.whole c.in_ok-id.ensures.opens in
    let o = opens look trees top base tree marks known shown le is_tree d in
    let e = c.in-None.ensures ∙ kind_there look trees top base shown le txn first tree marks d way.path o.0 mid c.in_ok-id.id o.2 in
    absurd cc

pub returns-in-Some-clause-all : goal.returns-in-Some-clause-all
returns-in-Some-clause-all g c = λ look trees top base tree marks known shown le is_tree d leads.
    let txn = g.N.Own.txn c.args.own.now in
    let first = g.N.Own.settled c.args.own.now in
    let mid = g.N.Own.folder c.reached.new.own in
    let way = c.args.way.now in
    let kind = c.in-Some.kind in
    let opens : ReachesTo txn first mid way.known.items way.path (Ok c.in_ok-id.id) = subst (λ (h : Folder). ReachesTo txn h mid way.known.items way.path (Ok c.in_ok-id.id)) c.requires.whole c.in_ok-id.ensures.opens in
    let o = opens look trees top base tree marks known shown le is_tree d in
    let there = kind_there look trees top base shown le txn first tree marks d way.path o.0 mid c.in_ok-id.id o.2 in
    let same : o.0 ≡ kind = same_Some o.0 kind (sym there ∙ sym c.in-Some.ensures) in
    let knows : ReachesKnown txn first mid way (Ok c.in_ok-id.id) = subst (λ (h : Folder). ReachesKnown txn h mid way (Ok c.in_ok-id.id)) c.requires.whole c.in_ok-id.ensures.leads in
    let all : SetsAll txn first mid way c.in_ok-id.id kind c.property_in.result =
    subst (λ (t : TxnName). SetsAll t first mid way c.in_ok-id.id kind c.property_in.result) c.in_ok-id.ensures.name
    (subst (λ (h : Folder). SetsAll (g.N.Own.txn c.reached.new.own) h mid way c.in_ok-id.id kind c.property_in.result) c.in_ok-id.ensures.settled c.property_in.ensures.all) in
    all look trees top base tree marks shown le d
    (subst (λ (k : Kind). IsOpenedAt look trees top base txn marks tree d.0.shows.own way.path k mid c.in_ok-id.id) same o.2)
    (subst (λ (k : Kind). HasKind (tree way.path) k) same o.1)
    (knows look trees top base tree marks known shown le is_tree d leads)

pub returns-then-not-fits-clause-still : goal.returns-then-not-fits-clause-still
returns-then-not-fits-clause-still g c = λ look trees top base tree marks known shown le is_tree d other leads. leads

pub returns-in_err-id-clause-still : goal.returns-in_err-id-clause-still
returns-in_err-id-clause-still g c = λ look trees top base tree marks known shown le is_tree d other leads.
    let mid = g.N.Own.folder c.reached.new.own in
    let opens : ReachesTo (g.N.Own.txn c.args.own.now) (g.N.Own.settled c.args.own.now) mid c.args.way.now.known.items c.args.way.now.path (Err c.in_err-id.field-0.0) =
    subst (λ (h : Folder). ReachesTo (g.N.Own.txn c.args.own.now) h mid c.args.way.now.known.items c.args.way.now.path (Err c.in_err-id.field-0.0)) c.requires.whole c.in_err-id.ensures.opens in
    let r = err_from_is_err_and c.from_residual.result c.from_residual.ensures.1 in
    rw (r.1, r.2) (left_want c.in_err-id.field-0.0 _ _ (opens look trees top base tree marks known shown le is_tree d) (same_leads look _ _ _ other c.in_err-id.ensures.settled leads))

pub returns-in-None-clause-still : goal.returns-in-None-clause-still
returns-in-None-clause-still g c = λ look trees top base tree marks known shown le is_tree d other leads. same_leads look _ _ _ other c.in_ok-id.ensures.settled leads

pub returns-in-Some-clause-still : goal.returns-in-Some-clause-still
returns-in-Some-clause-still g c = λ look trees top base tree marks known shown le is_tree d other leads.
    let txn = g.N.Own.txn c.args.own.now in
    let first = g.N.Own.settled c.args.own.now in
    let mid = g.N.Own.folder c.reached.new.own in
    let last = g.N.Own.settled c.property_in.new.own in
    let way = c.args.way.now in
    let kind = c.in-Some.kind in
    let opens : ReachesTo txn first mid way.known.items way.path (Ok c.in_ok-id.id) = subst (λ (h : Folder). ReachesTo txn h mid way.known.items way.path (Ok c.in_ok-id.id)) c.requires.whole c.in_ok-id.ensures.opens in
    let o = opens look trees top base tree marks known shown le is_tree d in
    let there = kind_there look trees top base shown le txn first tree marks d way.path o.0 mid c.in_ok-id.id o.2 in
    let same : o.0 ≡ kind = same_Some o.0 kind (sym there ∙ sym c.in-Some.ensures) in
    let fit : fits_value (bytes_of c.args.value) ≡ true = sym c.if-not-fits.ensures in
    let at = subst (λ (k : Kind). IsOpenedAt look trees top base txn marks tree d.0.shows.own way.path k mid c.in_ok-id.id) same o.2 in
    let has = subst (λ (k : Kind). HasKind (tree way.path) k) same o.1 in
    let sets : SetsProp txn first mid last way c.in_ok-id.id kind c.args.name.now c.args.value c.property_in.result =
    subst (λ (t : TxnName). SetsProp t first mid last way c.in_ok-id.id kind c.args.name.now c.args.value c.property_in.result) c.in_ok-id.ensures.name
    (subst (λ (h : Folder). SetsProp (g.N.Own.txn c.reached.new.own) h mid last way c.in_ok-id.id kind c.args.name.now c.args.value c.property_in.result) c.in_ok-id.ensures.settled c.property_in.ensures.sets) in
    let stays : SetsStill txn first mid last way c.in_ok-id.id kind c.property_in.result =
    subst (λ (t : TxnName). SetsStill t first mid last way c.in_ok-id.id kind c.property_in.result) c.in_ok-id.ensures.name
    (subst (λ (h : Folder). SetsStill (g.N.Own.txn c.reached.new.own) h mid last way c.in_ok-id.id kind c.property_in.result) c.in_ok-id.ensures.settled c.property_in.ensures.still) in
    let reached : ReachesStill txn first mid way (Ok c.in_ok-id.id) = subst (λ (h : Folder). ReachesStill txn h mid way (Ok c.in_ok-id.id)) c.requires.whole c.in_ok-id.ensures.still in
    prop_leads look trees top base txn tree marks way.path c.args.name.now c.args.value first last other leads c.property_in.result
    (sets look trees top base tree marks known shown le d at has fit)
    (set_each txn (λ (root : NodeId). LeadsDown look last.nodes other.known.items other.path root) c.property_in.result
    (λ root is. stays look trees top base tree marks shown le d at has other.known.items other.path root (reached look trees top base tree marks known shown le is_tree d other.known.items other.path root (leads root is))))
