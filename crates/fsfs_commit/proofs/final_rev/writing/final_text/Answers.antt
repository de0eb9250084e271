use Rattle.std.proofs.Common.{[], ◌≤◌, ℕ, List, sym, ap, subst, arith}
use Rattle.std.proofs.lemmas.Result.{err_from_is_err_and}
use Rattle.fsfs_base.specs.declared.fields.txn_name.TxnName.{TxnName}
use Rattle.fsfs_noderev.specs.declared.changes.item.ChangeItem.{ChangeItem}
use Rattle.fsfs_draft.specs.Drafts.{AreItemsOf}
use Rattle.fsfs_final.specs.Pieces.Endings.{IsEndPut}
use Rattle.fsfs_final.specs.Pieces.Naming.{ids_of}
use Rattle.fsfs_final.specs.Order.Orders.{last_first}
use Rattle.fsfs_commit.specs.FinalRev.Items.{AreFinalItems, IsOneUntold, IsOneItemPast}
use Rattle.fsfs_commit.specs.FinalRev.Texts.{IsRefused, HasPathPast, OfItem, of_order}
use Rattle.fsfs_commit.specs.declared.final_rev.error.FinalError.{FinalError}
use Rattle.fsfs_final.specs.Putting.{IsOnePast, no_ids}
use Rattle.fsfs_commit.proofs.ItemRooms.{end_most}
use Rattle.fsfs_commit.proofs.PutRooms.{puts_most}
use Rattle.fsfs_commit.proofs.Refusals.{order_refused, limit_refused, refused_more, node_past, none_untold}
use Rattle.fsfs_commit.proofs.TextLaw.{text_final, root_there, put_as}
use Rattle.fsfs_commit.proofs.final_rev.writing.final_text.Goals as goal

pub returns-in_err-order-clause-whole : goal.returns-in_err-order-clause-whole
returns-in_err-order-clause-whole g c = λ look trees top tree marks is.
    let r = err_from_is_err_and c.from_residual.result c.from_residual.ensures.1 in
    let le : top ≤ top = omega arith in
    let memory = ap of_order (c.in_err-order.ensures.whole look trees top top is.draft.shows.own is.shows.each le is.draft.shows.is_draft) in
    rw (r.1, r.2) (subst (λ (e : FinalError). IsRefused ⊥ (HasPathPast (g.N.Own.folder c.args.own.now) c.args.items.now) e) (sym memory) tt)

pub returns-in_default-clause-whole : goal.returns-in_default-clause-whole
returns-in_default-clause-whole g c = λ look trees top tree marks is.
    let f = g.N.Own.folder c.args.own.now in
    let le : top ≤ top = omega arith in
    let ks = last_first c.in_ok-order.order.items in
    let order = c.in_ok-order.ensures.draft look trees top top is.draft.shows.own is.shows.each le is.draft.shows.is_draft in
    let put = put_as c.args.rev c.args.start _ _ ks c.new-out.result.items c.put_all.new.out.items (ids_of c.in_ok-ids.ids) is.rev_is is.start_is c.new-out.ensures.items c.in_ok-ids.ensures.put in
    absurd (root_there look trees top (g.N.Own.txn c.args.own.now) f tree marks c.args.rev c.args.start c.args.items.now is ks c.put_all.new.out.items (ids_of c.in_ok-ids.ids) order put (sym c.in_default.ensures))

pub returns-clause-next : goal.returns-clause-next
returns-clause-next g c = λ look trees top tree marks is.
    let f = g.N.Own.folder c.args.own.now in
    let txn = g.N.Own.txn c.args.own.now in
    let ids = ids_of c.in_ok-ids.ids in
    let le : top ≤ top = omega arith in
    let ks = last_first c.in_ok-order.order.items in
    let told = c.in_ok-changes.changes.items in
    let offset = c.in-Some.offset in
    let order = c.in_ok-order.ensures.draft look trees top top is.draft.shows.own is.shows.each le is.draft.shows.is_draft in
    let put = put_as c.args.rev c.args.start _ _ ks c.new-out.result.items c.put_all.new.out.items ids is.rev_is is.start_is c.new-out.ensures.items c.in_ok-ids.ensures.put in
    let end = subst (λ (k : ℕ). IsEndPut k c.put_all.new.out.items c.put_end.new.out.items offset told) is.start_is
    (subst (λ (l : List ChangeItem). IsEndPut c.args.start c.put_all.new.out.items c.put_end.new.out.items offset l) c.as_slice.ensures.value c.in_ok-put_end.ensures) in
    let are = subst (λ (t : TxnName). AreFinalItems t c.args.items.now ids told) c.name-name.ensures c.in_ok-changes.ensures.items in
    text_final look trees top txn f tree marks c.args.rev c.args.start c.args.items.now is ks c.put_all.new.out.items ids order put
    c.put_end.new.out.items told offset (sym c.in-Some.ensures) end are

pub returns-in_err-order-clause-refused : goal.returns-in_err-order-clause-refused
returns-in_err-order-clause-refused g c =
    let r = err_from_is_err_and c.from_residual.result c.from_residual.ensures.1 in
    rw (r.1, r.2) (order_refused (HasPathPast (g.N.Own.folder c.args.own.now) c.args.items.now) c.in_err-order.field-0.0)

pub returns-in_err-ids-clause-whole : goal.returns-in_err-ids-clause-whole
returns-in_err-ids-clause-whole g c = λ look trees top tree marks is.
    let f = g.N.Own.folder c.args.own.now in
    let r = err_from_is_err_and c.from_residual-in_err-ids.result c.from_residual-in_err-ids.ensures.1 in
    rw (r.1, r.2) (limit_refused ⊥ (λ limit. IsOnePast limit (last_first c.in_ok-order.order.items)) (HasPathPast f c.args.items.now) (λ limit h. node_past f c.args.items.now limit (last_first c.in_ok-order.order.items) c.in_ok-order.ensures.held h) c.in_err-ids.field-0.0 c.in_err-ids.ensures.past)

pub returns-in_err-ids-clause-refused : goal.returns-in_err-ids-clause-refused
returns-in_err-ids-clause-refused g c =
    let f = g.N.Own.folder c.args.own.now in
    let r = err_from_is_err_and c.from_residual-in_err-ids.result c.from_residual-in_err-ids.ensures.1 in
    rw (r.1, r.2) (limit_refused (Unit {0}) (λ limit. IsOnePast limit (last_first c.in_ok-order.order.items)) (HasPathPast f c.args.items.now) (λ limit h. node_past f c.args.items.now limit (last_first c.in_ok-order.order.items) c.in_ok-order.ensures.held h) c.in_err-ids.field-0.0 c.in_err-ids.ensures.past)

pub returns-in_err-changes-clause-whole : goal.returns-in_err-changes-clause-whole
returns-in_err-changes-clause-whole g c = λ look trees top tree marks is.
    let f = g.N.Own.folder c.args.own.now in
    let r = err_from_is_err_and c.from_residual-in_err-changes.result c.from_residual-in_err-changes.ensures.1 in
    let of_marks = subst (λ (l : List ChangeItem). AreItemsOf l marks) (sym is.items_are) is.draft.shows.items in
    rw (r.1, r.2) (refused_more (IsOneUntold c.args.items.now) ⊥ (λ limit. IsOneItemPast limit c.args.items.now) (HasPathPast f c.args.items.now) (none_untold c.args.items.now marks of_marks) (λ limit h. OfItem h) c.in_err-changes.field-0.0 c.in_err-changes.ensures.refused)

pub returns-in_err-changes-clause-refused : goal.returns-in_err-changes-clause-refused
returns-in_err-changes-clause-refused g c =
    let r = err_from_is_err_and c.from_residual-in_err-changes.result c.from_residual-in_err-changes.ensures.1 in
    rw (r.1, r.2) (refused_more (IsOneUntold c.args.items.now) (Unit {0}) (λ limit. IsOneItemPast limit c.args.items.now) (HasPathPast (g.N.Own.folder c.args.own.now) c.args.items.now) (λ h. tt) (λ limit h. OfItem h) c.in_err-changes.field-0.0 c.in_err-changes.ensures.refused)

pub returns-clause-room : goal.returns-clause-room
returns-clause-room g c = λ look trees top tree marks is.
    let le : top ≤ top = omega arith in
    let ks = last_first c.in_ok-order.order.items in
    let order = c.in_ok-order.ensures.draft look trees top top is.draft.shows.own is.shows.each le is.draft.shows.is_draft in
    let put = put_as c.args.rev c.args.start _ _ ks c.new-out.result.items c.put_all.new.out.items (ids_of c.in_ok-ids.ids) is.rev_is is.start_is c.new-out.ensures.items c.in_ok-ids.ensures.put in
    let end = subst (λ (l : List ChangeItem). IsEndPut c.args.start c.put_all.new.out.items c.put_end.new.out.items c.in-Some.offset l) c.as_slice.ensures.value c.in_ok-put_end.ensures in
    let nodes_room = puts_most _ _ ks [] no_ids c.put_all.new.out.items (ids_of c.in_ok-ids.ids) put in
    let end_room = end_most c.args.start c.put_all.new.out.items c.put_end.new.out.items c.in-Some.offset c.in_ok-changes.changes.items end in
    let few = c.in_ok-changes.ensures.items.fewer in
    (ks, order, omega (arith, nodes_room, end_room, few))
