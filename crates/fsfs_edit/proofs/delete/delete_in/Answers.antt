use Rattle.std.proofs.Common.{sym, subst, ◌∙◌}
use Rattle.std.specs.Prelude.{Ok}
use Rattle.std.proofs.lemmas.Result.{err_from_is_err_and}
use Rattle.fsfs_base.specs.declared.fields.txn_name.TxnName.{TxnName}
use Rattle.fsfs_base.specs.declared.kind.Kind.TheVariants.{Dir}
use Rattle.fsfs_revision.specs.Told.{Knows}
use Rattle.fsfs_revision.proofs.Keeping.{keeps_trans}
use Rattle.fsfs_draft.specs.Drafts.{IsDraft}
use Rattle.fsfs_edit.specs.Ways.{IsOpenedAt}
use Rattle.fsfs_edit.specs.DagEdits.Taken.{LeavesGone}
use Rattle.fsfs_edit.proofs.Whole.{stays, settle_fails, deleted_in}
use Rattle.fsfs_edit.proofs.delete.delete_in.Goals as goal

pub returns-in_err-dir-clause-deletes : goal.returns-in_err-dir-clause-deletes
returns-in_err-dir-clause-deletes g c = λ look trees top base tree marks knows shown le is_tree d has kind at.
    let r = err_from_is_err_and c.from_residual.result c.from_residual.ensures.1 in
    rw (r.1, r.2) (stays c.in_err-dir.field-0.0 _ (c.in_err-dir.ensures.opens look trees top base tree marks Dir knows shown le is_tree d has) c.in_err-dir.ensures.settled)

pub returns-in_err-take_away-clause-deletes : goal.returns-in_err-take_away-clause-deletes
returns-in_err-take_away-clause-deletes g c = λ look trees top base tree marks knows shown le is_tree d has kind at.
    let txn = g.N.Own.txn c.args.own.now in
    let mid = g.N.Own.folder c.opened_to.new.own in
    let o : IsOpenedAt look trees top base txn marks tree d.0.shows.own c.args.parent.now Dir mid c.in_ok-dir.dir = c.in_ok-dir.ensures.opens look trees top base tree marks Dir knows shown le is_tree d has in
    let later : Knows (g.B.Book.told c.opened_to.new.book).revs top look = λ n h. c.in_ok-dir.ensures.kept.revs n (look n) (knows n h) in
    let draft : IsDraft look top base (g.N.Own.txn c.opened_to.new.own) mid o.now = subst (λ (t : TxnName). IsDraft look top base t mid o.now) (sym c.in_ok-dir.ensures.name) o.opened.draft in
    let r = err_from_is_err_and c.from_residual-in_err-take_away.result c.from_residual-in_err-take_away.ensures.1 in
    rw (r.1, r.2) (stays c.in_err-take_away.field-0.0 _ (c.in_err-take_away.ensures.draft look trees top base o.now c.args.parent.now o.v later shown le draft o.here o.id_is o.kind_is) (c.in_err-take_away.ensures.settled ∙ c.in_ok-dir.ensures.settled))

pub returns-in_err-take_away-clause-kept : goal.returns-in_err-take_away-clause-kept
returns-in_err-take_away-clause-kept g c = keeps_trans _ _ _ c.in_ok-dir.ensures.kept c.in_err-take_away.ensures.kept

pub returns-in_err-settle-clause-deletes : goal.returns-in_err-settle-clause-deletes
returns-in_err-settle-clause-deletes g c = λ look trees top base tree marks knows shown le is_tree d has kind at.
    let r = err_from_is_err_and c.from_residual-in_err-settle.result c.from_residual-in_err-settle.ensures.1 in
    rw (r.1, r.2) (settle_fails c.in_err-settle.field-0.0 _ _ (λ h. h ∙ c.in_ok-take_away.ensures.settled ∙ c.in_ok-dir.ensures.settled) c.in_err-settle.ensures.not_done)

pub returns-in_err-settle-clause-kept : goal.returns-in_err-settle-clause-kept
returns-in_err-settle-clause-kept g c = keeps_trans _ _ _ c.in_ok-dir.ensures.kept c.in_ok-take_away.ensures.kept

pub returns-clause-deletes : goal.returns-clause-deletes
returns-clause-deletes g c = λ look trees top base tree marks knows shown le is_tree d has kind at.
    let txn = g.N.Own.txn c.args.own.now in
    let mid = g.N.Own.folder c.opened_to.new.own in
    let o : IsOpenedAt look trees top base txn marks tree d.0.shows.own c.args.parent.now Dir mid c.in_ok-dir.dir = c.in_ok-dir.ensures.opens look trees top base tree marks Dir knows shown le is_tree d has in
    let later : Knows (g.B.Book.told c.opened_to.new.book).revs top look = λ n h. c.in_ok-dir.ensures.kept.revs n (look n) (knows n h) in
    let draft : IsDraft look top base (g.N.Own.txn c.opened_to.new.own) mid o.now = subst (λ (t : TxnName). IsDraft look top base t mid o.now) (sym c.in_ok-dir.ensures.name) o.opened.draft in
    let after = g.N.Own.folder c.take_away.new.own in
    let new : LeavesGone look trees top base txn mid o.now c.args.parent.now c.args.name.now after (Ok tt) =
    subst (λ (t : TxnName). LeavesGone look trees top base t mid o.now c.args.parent.now c.args.name.now after (Ok tt)) c.in_ok-dir.ensures.name (c.in_ok-take_away.ensures.draft look trees top base o.now c.args.parent.now o.v later shown le draft o.here o.id_is o.kind_is) in
    deleted_in look trees top base txn (g.N.Own.folder c.args.own.now) tree marks d c.args.parent.now c.args.name.now mid c.in_ok-dir.dir o c.args.child.now.step c.args.child.now.kind kind at after c.deleted_id-id.result c.deleted_id-id.ensures new c.in_ok-item.item c.in_ok-item.ensures (g.N.Own.settled c.settle.new.self) c.in_ok-settle.ensures.done

pub returns-clause-kept : goal.returns-clause-kept
returns-clause-kept g c = keeps_trans _ _ _ c.in_ok-dir.ensures.kept c.in_ok-take_away.ensures.kept
