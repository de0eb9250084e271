use Rattle.std.proofs.Common.{◌≡◌, Some, None, [], ◌∷◌, ◌++◌, sym, subst, ◌∙◌}
use Rattle.std.specs.Prelude.{Ok}
use Rattle.std.proofs.lemmas.Result.{err_from_is_err_and}
use Rattle.fsfs_base.specs.declared.fields.txn_name.TxnName.{TxnName}
use Rattle.fsfs_base.specs.declared.kind.Kind.TheVariants.{Dir}
use Rattle.fsfs_revision.specs.Told.{Knows}
use Rattle.fsfs_revision.proofs.Keeping.{keeps_trans}
use Rattle.fsfs_draft.specs.Own.{draft_tree}
use Rattle.fsfs_draft.specs.Drafts.{IsDraft, kept_of}
use Rattle.fsfs_edit.specs.Ways.{IsOpenedAt}
use Rattle.fsfs_noderev.specs.declared.node_rev.CopySource.{CopySource}
use Rattle.fsfs_edit.specs.Items.{IsAddOf}
use Rattle.fsfs_edit.specs.DagEdits.Copied.{LeavesCopy}
use Rattle.fsfs_edit.proofs.MakingAt.{kind_some}
use Rattle.fsfs_edit.proofs.Room.{dir_kept, dir_within, room_fails_here, full_here, space_here}
use Rattle.fsfs_edit.proofs.Bare.{bare_none}
use Rattle.fsfs_edit.proofs.Whole.{stays, settle_fails, copied_in}
use Rattle.fsfs_edit.proofs.copy.copy_in.Goals as goal

pub returns-in_err-dir-clause-copies : goal.returns-in_err-dir-clause-copies
returns-in_err-dir-clause-copies g c = λ look trees top base tree marks knows shown le is_tree d room from_le source has.
    let r = err_from_is_err_and c.from_residual.result c.from_residual.ensures.1 in
    rw (r.1, r.2) (stays c.in_err-dir.field-0.0 _ (c.in_err-dir.ensures.opens look trees top base tree marks Dir knows shown le is_tree d room.0) c.in_err-dir.ensures.settled)

pub returns-in_err-room-clause-copies : goal.returns-in_err-room-clause-copies
returns-in_err-room-clause-copies g c = λ look trees top base tree marks knows shown le is_tree d room from_le source has.
    let txn = g.N.Own.txn c.args.own.now in
    let mid = g.N.Own.folder c.opened_to.new.own in
    let o : IsOpenedAt look trees top base txn marks tree d.0.shows.own c.args.parent.now Dir mid c.in_ok-dir.dir = c.in_ok-dir.ensures.opens look trees top base tree marks Dir knows shown le is_tree d room.0 in
    let early : Knows (g.B.Book.told c.opened_to.new.book).revs top look = λ n h. c.in_ok-dir.ensures.kept.revs n (look n) (knows n h) in
    let there = dir_kept look trees top base shown le txn tree marks d.0.shows.own c.args.parent.now mid c.in_ok-dir.dir o in
    let within = dir_within look trees top base shown le txn tree marks d.0.shows.own c.args.parent.now mid c.in_ok-dir.dir o in
    let r = err_from_is_err_and c.from_residual-in_err-room.result c.from_residual-in_err-room.ensures.1 in
    rw (r.1, r.2) (stays c.in_err-room.field-0.0 _ (room_fails_here look trees top base shown le txn tree marks d.0.shows.own c.args.parent.now mid c.in_ok-dir.dir o c.in_err-room.field-0.0 (c.in_err-room.ensures.tells look top (kept_of o.v) early there within)) c.in_ok-dir.ensures.settled)

pub returns-in_err-room-clause-kept : goal.returns-in_err-room-clause-kept
returns-in_err-room-clause-kept g c = keeps_trans _ _ _ c.in_ok-dir.ensures.kept c.in_err-room.ensures.kept

pub returns-then-not-room-clause-copies : goal.returns-then-not-room-clause-copies
returns-then-not-room-clause-copies g c = λ look trees top base tree marks knows shown le is_tree d room from_le source has.
    let txn = g.N.Own.txn c.args.own.now in
    let mid = g.N.Own.folder c.opened_to.new.own in
    let o : IsOpenedAt look trees top base txn marks tree d.0.shows.own c.args.parent.now Dir mid c.in_ok-dir.dir = c.in_ok-dir.ensures.opens look trees top base tree marks Dir knows shown le is_tree d room.0 in
    let early : Knows (g.B.Book.told c.opened_to.new.book).revs top look = λ n h. c.in_ok-dir.ensures.kept.revs n (look n) (knows n h) in
    let there = dir_kept look trees top base shown le txn tree marks d.0.shows.own c.args.parent.now mid c.in_ok-dir.dir o in
    let within = dir_within look trees top base shown le txn tree marks d.0.shows.own c.args.parent.now mid c.in_ok-dir.dir o in
    let full = full_here look trees top base shown le txn tree marks d.0.shows.own c.args.parent.now mid c.in_ok-dir.dir o c.in_ok-room.room c.if-not-room.true (c.in_ok-room.ensures.tells look top (kept_of o.v) early there within) in
    (room, from_le, kind_some (trees c.args.from.now.rev c.args.from.now.path) c.args.source.now.kind has, full, c.in_ok-dir.ensures.settled)

pub returns-then-not-room-clause-kept : goal.returns-then-not-room-clause-kept
returns-then-not-room-clause-kept g c = keeps_trans _ _ _ c.in_ok-dir.ensures.kept c.in_ok-room.ensures.kept

pub returns-in_err-id-clause-copies : goal.returns-in_err-id-clause-copies
returns-in_err-id-clause-copies g c = λ look trees top base tree marks knows shown le is_tree d room from_le source has.
    let txn = g.N.Own.txn c.args.own.now in
    let mid = g.N.Own.folder c.opened_to.new.own in
    let o : IsOpenedAt look trees top base txn marks tree d.0.shows.own c.args.parent.now Dir mid c.in_ok-dir.dir = c.in_ok-dir.ensures.opens look trees top base tree marks Dir knows shown le is_tree d room.0 in
    let later : Knows (g.B.Book.told c.room_in.new.book).revs top look = λ n h. c.in_ok-room.ensures.kept.revs n (look n) (c.in_ok-dir.ensures.kept.revs n (look n) (knows n h)) in
    let draft : IsDraft look top base (g.N.Own.txn c.opened_to.new.own) mid o.now = subst (λ (t : TxnName). IsDraft look top base t mid o.now) (sym c.in_ok-dir.ensures.name) o.opened.draft in
    let lacks : draft_tree trees o.now (trees base) (c.args.parent.now ++ c.args.name.now ∷ []) ≡ None =
    bare_none (tree (c.args.parent.now ++ c.args.name.now ∷ [])) (draft_tree trees o.now (trees base) (c.args.parent.now ++ c.args.name.now ∷ [])) (o.opened.each (c.args.parent.now ++ c.args.name.now ∷ [])) room.1 in
    let r = err_from_is_err_and c.from_residual-in_err-id.result c.from_residual-in_err-id.ensures.1 in
    rw (r.1, r.2) (stays c.in_err-id.field-0.0 _ (c.in_err-id.ensures.draft look trees top base o.now c.args.parent.now o.v later shown le draft o.here o.id_is o.kind_is lacks from_le source) (c.in_err-id.ensures.settled ∙ c.in_ok-dir.ensures.settled))

pub returns-in_err-id-clause-kept : goal.returns-in_err-id-clause-kept
returns-in_err-id-clause-kept g c = keeps_trans _ _ _ c.in_ok-dir.ensures.kept (keeps_trans _ _ _ c.in_ok-room.ensures.kept c.in_err-id.ensures.kept)

pub returns-in_err-settle-clause-copies : goal.returns-in_err-settle-clause-copies
returns-in_err-settle-clause-copies g c = λ look trees top base tree marks knows shown le is_tree d room from_le source has.
    let r = err_from_is_err_and c.from_residual-in_err-settle.result c.from_residual-in_err-settle.ensures.1 in
    rw (r.1, r.2) (settle_fails c.in_err-settle.field-0.0 _ _ (λ h. h ∙ c.in_ok-id.ensures.settled ∙ c.in_ok-dir.ensures.settled) c.in_err-settle.ensures.not_done)

pub returns-in_err-settle-clause-kept : goal.returns-in_err-settle-clause-kept
returns-in_err-settle-clause-kept g c = keeps_trans _ _ _ c.in_ok-dir.ensures.kept (keeps_trans _ _ _ c.in_ok-room.ensures.kept c.in_ok-id.ensures.kept)

pub returns-clause-copies : goal.returns-clause-copies
returns-clause-copies g c = λ look trees top base tree marks knows shown le is_tree d room from_le source has.
    let txn = g.N.Own.txn c.args.own.now in
    let mid = g.N.Own.folder c.opened_to.new.own in
    let o : IsOpenedAt look trees top base txn marks tree d.0.shows.own c.args.parent.now Dir mid c.in_ok-dir.dir = c.in_ok-dir.ensures.opens look trees top base tree marks Dir knows shown le is_tree d room.0 in
    let later : Knows (g.B.Book.told c.room_in.new.book).revs top look = λ n h. c.in_ok-room.ensures.kept.revs n (look n) (c.in_ok-dir.ensures.kept.revs n (look n) (knows n h)) in
    let draft : IsDraft look top base (g.N.Own.txn c.opened_to.new.own) mid o.now = subst (λ (t : TxnName). IsDraft look top base t mid o.now) (sym c.in_ok-dir.ensures.name) o.opened.draft in
    let lacks : draft_tree trees o.now (trees base) (c.args.parent.now ++ c.args.name.now ∷ []) ≡ None =
    bare_none (tree (c.args.parent.now ++ c.args.name.now ∷ [])) (draft_tree trees o.now (trees base) (c.args.parent.now ++ c.args.name.now ∷ [])) (o.opened.each (c.args.parent.now ++ c.args.name.now ∷ [])) room.1 in
    let after = g.N.Own.folder c.copy_to.new.own in
    let new : LeavesCopy look trees top base txn mid o.now c.args.parent.now c.args.name.now c.args.from.now after (Ok c.in_ok-id.id) =
    subst (λ (t : TxnName). LeavesCopy look trees top base t mid o.now c.args.parent.now c.args.name.now c.args.from.now after (Ok c.in_ok-id.id)) c.in_ok-dir.ensures.name (c.in_ok-id.ensures.draft look trees top base o.now c.args.parent.now o.v later shown le draft o.here o.id_is o.kind_is lacks from_le source) in
    let early : Knows (g.B.Book.told c.opened_to.new.book).revs top look = λ n h. c.in_ok-dir.ensures.kept.revs n (look n) (knows n h) in
    let there = dir_kept look trees top base shown le txn tree marks d.0.shows.own c.args.parent.now mid c.in_ok-dir.dir o in
    let within = dir_within look trees top base shown le txn tree marks d.0.shows.own c.args.parent.now mid c.in_ok-dir.dir o in
    let space = space_here look trees top base shown le txn tree marks d.0.shows.own c.args.parent.now mid c.in_ok-dir.dir o c.in_ok-room.room c.if-not-room.false (c.in_ok-room.ensures.tells look top (kept_of o.v) early there within) in
    (space, copied_in look trees top base txn (g.N.Own.folder c.args.own.now) tree marks d c.args.parent.now c.args.name.now mid c.in_ok-dir.dir o c.args.from.now c.args.source.now.kind room from_le has after c.in_ok-id.id new.0 new.1 c.in_ok-item.item (subst (λ (s : CopySource). IsAddOf c.in_ok-item.item c.in_ok-id.id c.args.source.now.kind (c.args.parent.now ++ c.args.name.now ∷ []) (Some s)) c.in_ok-origin.ensures c.in_ok-item.ensures) (g.N.Own.settled c.settle.new.self) c.in_ok-settle.ensures.done)

pub returns-clause-kept : goal.returns-clause-kept
returns-clause-kept g c = keeps_trans _ _ _ c.in_ok-dir.ensures.kept (keeps_trans _ _ _ c.in_ok-room.ensures.kept c.in_ok-id.ensures.kept)
