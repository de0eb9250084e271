use Rattle.std.proofs.Common.{◌≡◌, sym, subst}
use Rattle.std.specs.Prelude.{Result, Err}
use Rattle.fsfs_draft.specs.Drafts.{Folder}
use Rattle.fsfs_txn.specs.declared.txn_error.TxnError.{TxnError}
use Rattle.fsfs_txn.specs.Edits.Texts.{IsLeftStanding, IfLeft}
use Rattle.fsfs_txn.proofs.Meeting.{is_tree}
use Rattle.fsfs_txn.proofs.Putting.{failure_left, text_put_as}
use Rattle.fsfs_txn.specs.Opened.Leading.{Leads}
use Rattle.fsfs_txn.specs.Leading.{HasAll}
use Rattle.fsfs_txn.specs.declared.edits.texts.TextSet.{TextSet}
use Rattle.fsfs_txn.proofs.txn.Txn.put_text.Goals as goal

pub returns-in-Ok-clause-meets : goal.returns-in-Ok-clause-meets
returns-in-Ok-clause-meets g c = λ unspent look trees top tree marks known shown revs le stands has.
    let s = c.args.self.now in
    text_put_as look trees top s.base (g.N.Own.txn s.own) (g.N.Own.settled s.own) tree marks revs stands _ s.moves c.args.opened.now (g.I.Source.remaining c.args.source.now) (g.I.Source.remaining c.put_settled.new.source) c.args.expect (g.N.Own.settled c.put_settled.new.own) c.in-Ok.put c.from_put.result c.from_put.ensures c.if-opened.false
    (c.in-Ok.ensures.meets look trees top s.base tree marks known shown le (is_tree look trees top s.base (g.N.Own.txn s.own) (g.N.Own.settled s.own) tree marks revs stands) stands.shows)

pub returns-in-Err-clause-meets : goal.returns-in-Err-clause-meets
returns-in-Err-clause-meets g c = λ unspent look trees top tree marks known shown revs le stands has.
    let s = c.args.self.now in
    let kept : g.N.Own.settled c.failed.new.self.own ≡ g.N.Own.settled c.put_settled.new.own = λ i. g.N.Own.settled (c.failed.ensures.spent i).own in
    subst (λ (f : Folder). IfLeft c.failed.result (IsLeftStanding look trees top s.base (g.N.Own.txn s.own) tree marks (g.N.Own.settled s.own) f)) (sym kept)
    (subst (λ (e : TxnError). IfLeft e (IsLeftStanding look trees top s.base (g.N.Own.txn s.own) tree marks (g.N.Own.settled s.own) (g.N.Own.settled c.put_settled.new.own))) (sym c.failed.ensures.error)
    (failure_left look trees top s.base (g.N.Own.txn s.own) (g.N.Own.settled s.own) tree marks revs stands c.in-Err.error (g.N.Own.settled c.put_settled.new.own)
    (c.in-Err.ensures.meets look trees top s.base tree marks known shown le (is_tree look trees top s.base (g.N.Own.txn s.own) (g.N.Own.settled s.own) tree marks revs stands) stands.shows)))

-- ---- nothing is lacking, and what leads somewhere leads there still

pub returns-in-Err-clause-lacking : goal.returns-in-Err-clause-lacking
returns-in-Err-clause-lacking g c = λ unspent look trees top tree marks known shown revs le stands leads.
    let s = c.args.self.now in
    subst (λ (e : TxnError). HasAll (let r : Result TextSet TxnError = Err e in r)) (sym c.failed.ensures.error)
    (c.in-Err.ensures.all look trees top s.base tree marks known shown le (is_tree look trees top s.base (g.N.Own.txn s.own) (g.N.Own.settled s.own) tree marks revs stands) stands.shows leads)

pub returns-in-Ok-clause-leads : goal.returns-in-Ok-clause-leads
returns-in-Ok-clause-leads g c = λ unspent look trees top tree marks known shown revs le stands other leads.
    let s = c.args.self.now in
    c.in-Ok.ensures.still look trees top s.base tree marks known shown le (is_tree look trees top s.base (g.N.Own.txn s.own) (g.N.Own.settled s.own) tree marks revs stands) stands.shows other leads

pub returns-in-Err-clause-leads : goal.returns-in-Err-clause-leads
returns-in-Err-clause-leads g c = λ unspent look trees top tree marks known shown revs le stands other leads.
    let s = c.args.self.now in
    let kept : g.N.Own.settled c.failed.new.self.own ≡ g.N.Own.settled c.put_settled.new.own = λ i. g.N.Own.settled (c.failed.ensures.spent i).own in
    subst (λ (f : Folder). IfLeft c.failed.result (Leads look (g.N.Own.txn s.own) f other)) (sym kept)
    (subst (λ (e : TxnError). IfLeft e (Leads look (g.N.Own.txn s.own) (g.N.Own.settled c.put_settled.new.own) other)) (sym c.failed.ensures.error)
    (c.in-Err.ensures.still look trees top s.base tree marks known shown le (is_tree look trees top s.base (g.N.Own.txn s.own) (g.N.Own.settled s.own) tree marks revs stands) stands.shows other leads))
