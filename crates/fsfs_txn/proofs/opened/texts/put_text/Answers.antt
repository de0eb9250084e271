use Rattle.std.proofs.Common.{◌≡◌, true, sym, subst}
use Rattle.fsfs_draft.specs.Drafts.{Folder}
use Rattle.fsfs_txn.specs.Opened.Texts.{MeetsPut}
use Rattle.fsfs_txn.specs.Opened.Leading.{LeadStill}
use Rattle.fsfs_txn.proofs.opened.texts.put_text.Goals as goal

pub returns-clause-meets : goal.returns-clause-meets
returns-clause-meets g c = subst (λ (h : Folder). MeetsPut ((x : g.row.N.Denot) → g.N.OwnTexts.tells x ≡ true) (g.N.Own.txn c.args.own.now) (g.N.Own.settled c.args.own.now) h c.args.way.now (g.I.Source.remaining c.args.source.now) (g.I.Source.remaining c.put_steps-put.new.source) c.args.expect c.put_steps-put.result) (sym c.forget.ensures.settled) c.put_steps-put.ensures.meets

pub returns-clause-still : goal.returns-clause-still
returns-clause-still g c = subst (λ (h : Folder). LeadStill (g.N.Own.txn c.args.own.now) (g.N.Own.settled c.args.own.now) h c.args.way.now c.put_steps-put.result) (sym c.forget.ensures.settled) c.put_steps-put.ensures.still
