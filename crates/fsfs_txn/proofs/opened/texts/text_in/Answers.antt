use Rattle.std.proofs.Common.{◌≡◌, true, Result, sym, subst, ◌∙◌}
use Rattle.std.proofs.lemmas.Result.{err_from_is_err_and}
use Rattle.fsfs_draft.specs.declared.error.EditError.{EditError}
use Rattle.fsfs_txn.specs.declared.opened.texts.TextPut.{TextPut}
use Rattle.fsfs_txn.specs.Opened.Texts.{IsPuttingText}
use Rattle.fsfs_txn.proofs.Growing.{not_longer}
use Rattle.fsfs_txn.proofs.TextLemmas.{left_want, left_settle, longer_on, text_refused, text_done}
use Rattle.fsfs_base.specs.declared.kind.Kind.TheVariants.{File}
use Rattle.fsfs_draft.specs.Drafts.{kept_of}
use Rattle.fsfs_edit.proofs.Setting as setting
use Rattle.fsfs_txn.specs.Opened.Leading.{HasAll}
use Rattle.fsfs_txn.proofs.TextLemmas.{open_still, kept_still, grown_leads}
use Rattle.fsfs_txn.proofs.Staying.{want_all, settle_all, refusal_all, text_set}
use Rattle.fsfs_txn.proofs.opened.texts.text_in.Goals as goal

pub returns-in_err-number-clause-puts : goal.returns-in_err-number-clause-puts
returns-in_err-number-clause-puts g c = λ look trees top base tree marks shown le d o has.
    let r = err_from_is_err_and c.from_residual.result c.from_residual.ensures.1 in
    rw (r.1, r.2) (not_longer _ _ c.in_err-number.ensures.settled)

pub returns-in-Err-clause-puts : goal.returns-in-Err-clause-puts
returns-in-Err-clause-puts g c = λ look trees top base tree marks shown le d o has.
    subst (λ (r : Result TextPut EditError). IsPuttingText ((x : g.row.N.Denot) → g.N.OwnTexts.tells x ≡ true) look trees top base (g.N.Own.txn c.args.own.now) tree marks c.args.path.now (g.I.Source.remaining c.args.source.now) (g.I.Source.remaining c.append_text.new.source) c.args.expect (g.N.Own.settled c.args.own.now) (g.N.Own.settled c.append_text.new.self) r)
    (sym c.refused.ensures)
    (text_refused ((x : g.row.N.Denot) → g.N.OwnTexts.tells x ≡ true) look trees top base (g.N.Own.txn c.args.own.now) tree marks c.args.path.now (g.I.Source.remaining c.args.source.now) (g.I.Source.remaining c.append_text.new.source) c.args.expect (g.N.Own.settled c.args.own.now) _ _ _ (g.N.Own.settled c.append_text.new.self) has c.in_ok-number.ensures.settled c.in-Err.error c.in-Err.ensures.refused c.in-Err.ensures.left)

pub returns-in_err-set_text-clause-puts : goal.returns-in_err-set_text-clause-puts
returns-in_err-set_text-clause-puts g c = λ look trees top base tree marks shown le d o has.
    let put = c.in-Ok.ensures.put in
    let r = err_from_is_err_and c.from_residual-in_err-set_text.result c.from_residual-in_err-set_text.ensures.1 in
    rw (r.1, r.2) (left_want c.in_err-set_text.field-0.0 _ _ c.in_err-set_text.ensures.cause (longer_on _ _ _ _ put.more c.in_ok-number.ensures.settled put.longer_by.1 c.in_err-set_text.ensures.settled))

pub returns-in_err-item-clause-puts : goal.returns-in_err-item-clause-puts
returns-in_err-item-clause-puts g c = λ look trees top base tree marks shown le d o has.
    let put = c.in-Ok.ensures.put in
    let r = err_from_is_err_and c.from_residual-in_err-item.result c.from_residual-in_err-item.ensures.1 in
    rw (r.1, r.2) (longer_on _ _ _ _ put.more c.in_ok-number.ensures.settled put.longer_by.1 c.in_ok-set_text.ensures.settled)

pub returns-in_err-settle-clause-puts : goal.returns-in_err-settle-clause-puts
returns-in_err-settle-clause-puts g c = λ look trees top base tree marks shown le d o has.
    let put = c.in-Ok.ensures.put in
    let r = err_from_is_err_and c.from_residual-in_err-settle.result c.from_residual-in_err-settle.ensures.1 in
    rw (r.1, r.2) (left_settle c.in_err-settle.field-0.0 _ _ (λ h. longer_on _ _ _ _ put.more c.in_ok-number.ensures.settled put.longer_by.1 (h ∙ c.in_ok-set_text.ensures.settled)) c.in_err-settle.ensures.not_done)

pub returns-clause-puts : goal.returns-clause-puts
returns-clause-puts g c = λ look trees top base tree marks shown le d o has.
    let put = c.in-Ok.ensures.put in
    text_done ((x : g.row.N.Denot) → g.N.OwnTexts.tells x ≡ true) look trees top base shown le (g.N.Own.txn c.args.own.now) (g.N.Own.settled c.args.own.now) tree marks d c.args.path.now (g.N.Own.folder c.args.own.now) (g.N.Own.folder c.draw_node.new.self) (g.N.Own.folder c.append_text.new.self) c.args.id.now o has
    (g.I.Source.remaining c.args.source.now) (g.I.Source.remaining c.append_text.new.source) c.args.expect _ _ c.in-Ok.rep _ _ _ c.in_ok-number.ensures.done put (λ told. told _)
    (g.N.Own.folder c.set_text.new.own) c.in_ok-set_text.ensures.done c.in_ok-item.item c.in_ok-item.ensures (g.N.Own.settled c.settle.new.self) c.in_ok-settle.ensures.done

-- ---- nothing is lacking, and what leads somewhere leads there still

pub returns-in-Err-clause-all : goal.returns-in-Err-clause-all
returns-in-Err-clause-all g c = λ look trees top base tree marks shown le d o has. subst (λ (r : Result TextPut EditError). HasAll r) (sym c.refused.ensures) (refusal_all c.in-Err.error)

pub returns-in_err-set_text-clause-all : goal.returns-in_err-set_text-clause-all
returns-in_err-set_text-clause-all g c = λ look trees top base tree marks shown le d o has.
    let put = c.in-Ok.ensures.put in
    let r = err_from_is_err_and c.from_residual-in_err-set_text.result c.from_residual-in_err-set_text.ensures.1 in
    rw (r.1, r.2) (want_all c.in_err-set_text.field-0.0 _ c.in_err-set_text.ensures.cause (λ none. kept_still ((x : g.row.N.Denot) → g.N.OwnTexts.tells x ≡ true) look trees top base shown le (g.N.Own.txn c.args.own.now) (g.N.Own.settled c.args.own.now) tree marks d c.args.path.now (g.N.Own.folder c.args.own.now) (g.N.Own.folder c.draw_node.new.self) (g.N.Own.folder c.append_text.new.self) c.args.id.now o has (g.I.Source.remaining c.args.source.now) (g.I.Source.remaining c.append_text.new.source) c.args.expect put.more c.in_ok-number.ensures.done put.longer_by.0 none))

pub returns-in_err-settle-clause-all : goal.returns-in_err-settle-clause-all
returns-in_err-settle-clause-all g c = λ look trees top base tree marks shown le d o has.
    let r = err_from_is_err_and c.from_residual-in_err-settle.result c.from_residual-in_err-settle.ensures.1 in
    rw (r.1, r.2) (settle_all c.in_err-settle.field-0.0)

pub returns-clause-still : goal.returns-clause-still
returns-clause-still g c = λ look trees top base tree marks shown le d o has known path at leads.
    let put = c.in-Ok.ensures.put in
    let opened = open_still ((x : g.row.N.Denot) → g.N.OwnTexts.tells x ≡ true) look trees top base shown le (g.N.Own.txn c.args.own.now) (g.N.Own.settled c.args.own.now) tree marks d c.args.path.now (g.N.Own.folder c.args.own.now) (g.N.Own.folder c.draw_node.new.self) (g.N.Own.folder c.append_text.new.self) c.args.id.now o has (g.I.Source.remaining c.args.source.now) (g.I.Source.remaining c.append_text.new.source) c.args.expect put.more c.in_ok-number.ensures.done put.longer_by.0 in
    let there = setting.kept_there look trees top base shown le (g.N.Own.txn c.args.own.now) (g.N.Own.settled c.args.own.now) tree marks d c.args.path.now File (g.N.Own.folder c.append_text.new.self) c.args.id.now opened has in
    text_set look (g.N.Own.folder c.append_text.new.self) c.args.id.now (kept_of opened.v) there (g.N.Own.folder c.set_text.new.own) (g.N.Own.settled c.settle.new.self) c.in_ok-item.item c.in_ok-settle.ensures.done known path at
    c.in-Ok.rep (c.in_ok-set_text.ensures.done (kept_of opened.v) there)
    (grown_leads ((x : g.row.N.Denot) → g.N.OwnTexts.tells x ≡ true) look trees top base shown le (g.N.Own.txn c.args.own.now) (g.N.Own.settled c.args.own.now) tree marks d c.args.path.now (g.N.Own.folder c.args.own.now) (g.N.Own.folder c.draw_node.new.self) (g.N.Own.folder c.append_text.new.self) c.args.id.now o has (g.I.Source.remaining c.args.source.now) (g.I.Source.remaining c.append_text.new.source) c.args.expect put.more c.in_ok-number.ensures.done put.longer_by.0 known path at leads)
