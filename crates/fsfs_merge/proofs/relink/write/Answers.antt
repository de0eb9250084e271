use Rattle.std.proofs.Common.{◌≡◌, ◌∙◌, sym, subst}
use Rattle.std.proofs.lemmas.Result.{err_from_is_err_and}
use Rattle.fsfs_draft.specs.Drafts.{Folder}
use Rattle.fsfs_merge.specs.Relinked.{AreHere, AreRelinked}
use Rattle.fsfs_merge.proofs.Answering.{want_unwritten, settle_unwritten}
use Rattle.fsfs_merge.proofs.relink.write.Goals as goal

pub returns-in_err-relink_all-clause-not_done : goal.returns-in_err-relink_all-clause-not_done
returns-in_err-relink_all-clause-not_done g c =
    let r = err_from_is_err_and c.from_residual.result c.from_residual.ensures.1 in
    let lacks = AreHere (g.N.Own.folder c.args.own.now) c.args.dirs.items → ⊥ in
    let stays = g.N.Own.settled c.relink_all.new.own ≡ g.N.Own.settled c.args.own.now in
    rw (r.1, r.2) (want_unwritten c.in_err-relink_all.field-0.0 lacks stays c.in_err-relink_all.ensures.cause c.in_err-relink_all.ensures.settled)

pub returns-in_err-settle_merged-clause-not_done : goal.returns-in_err-settle_merged-clause-not_done
returns-in_err-settle_merged-clause-not_done g c =
    let r = err_from_is_err_and c.from_residual-in_err-settle_merged.result c.from_residual-in_err-settle_merged.ensures.1 in
    rw (r.1, r.2) (settle_unwritten c.in_err-settle_merged.field-0.0 _ _ _ (λ h. h ∙ c.in_ok-relink_all.ensures.settled) c.in_err-settle_merged.ensures.not_done)

pub returns-clause-done : goal.returns-clause-done
returns-clause-done g c = subst (λ (f : Folder). AreRelinked (g.N.Own.folder c.args.own.now) f c.args.dirs.items) (sym c.in_ok-settle_merged.ensures.done) c.in_ok-relink_all.ensures.done
