use Rattle.std.proofs.Common.{◌≡◌, sym, subst, ◌∙◌}
use Rattle.std.specs.Prelude.{Result, Ok, Err}
use Rattle.fsfs_draft.specs.Drafts.{Folder}
use Rattle.fsfs_txn.specs.declared.txn_error.TxnError.{TxnError}
use Rattle.fsfs_txn.specs.Edits.Texts.{IfLeft}
use Rattle.fsfs_txn.specs.Edits.Properties.{is_mergeinfo, IsSettingProp}
use Rattle.fsfs_txn.proofs.Meeting.{is_tree}
use Rattle.fsfs_txn.proofs.Putting.{neither, prop_put}
use Rattle.fsfs_txn.specs.Opened.Leading.{Leads}
use Rattle.fsfs_txn.specs.Leading.{HasAll}
use Rattle.fsfs_txn.specs.declared.edits.properties.PropertySet.{PropertySet}
use Rattle.fsfs_txn.proofs.txn.Txn.set_prop.Goals as goal

pub returns-in-Ok-clause-meets : goal.returns-in-Ok-clause-meets
returns-in-Ok-clause-meets g c = λ unspent look trees top tree marks known shown revs le stands.
    let s = c.args.self.now in
    let after = g.N.Own.settled c.set_settled.new.own in
    subst (λ (o : PropertySet). IsSettingProp look trees top s.base (g.N.Own.txn s.own) tree marks s.moves c.args.opened.now c.args.name.now c.args.value (g.N.Own.settled s.own) after (Ok o)) (sym c.from_put.ensures)
    (prop_put look trees top s.base (g.N.Own.txn s.own) (g.N.Own.settled s.own) tree marks revs stands s.moves c.args.opened.now c.args.name.now c.args.value after c.in-Ok.put (neither c.args.opened.now.counted (is_mergeinfo c.args.name.now) c.if-opened.false (sym c.is_mergeinfo.ensures ∙ c.if-is_mergeinfo.false))
    (c.in-Ok.ensures.meets look trees top s.base tree marks known shown le (is_tree look trees top s.base (g.N.Own.txn s.own) (g.N.Own.settled s.own) tree marks revs stands) stands.shows))

pub returns-in-Err-clause-meets : goal.returns-in-Err-clause-meets
returns-in-Err-clause-meets g c = λ unspent look trees top tree marks known shown revs le stands.
    let s = c.args.self.now in
    let kept : g.N.Own.settled c.failed.new.self.own ≡ g.N.Own.settled c.set_settled.new.own = λ i. g.N.Own.settled (c.failed.ensures.spent i).own in
    subst (λ (f : Folder). IfLeft c.failed.result (f ≡ g.N.Own.settled s.own)) (sym kept)
    (subst (λ (e : TxnError). IfLeft e (g.N.Own.settled c.set_settled.new.own ≡ g.N.Own.settled s.own)) (sym c.failed.ensures.error)
    (c.in-Err.ensures.meets look trees top s.base tree marks known shown le (is_tree look trees top s.base (g.N.Own.txn s.own) (g.N.Own.settled s.own) tree marks revs stands) stands.shows))

-- ---- nothing is lacking, and what leads somewhere leads there still

pub returns-in-Err-clause-lacking : goal.returns-in-Err-clause-lacking
returns-in-Err-clause-lacking g c = λ unspent look trees top tree marks known shown revs le stands leads.
    let s = c.args.self.now in
    subst (λ (e : TxnError). HasAll (let r : Result PropertySet TxnError = Err e in r)) (sym c.failed.ensures.error)
    (c.in-Err.ensures.all look trees top s.base tree marks known shown le (is_tree look trees top s.base (g.N.Own.txn s.own) (g.N.Own.settled s.own) tree marks revs stands) stands.shows leads)

pub returns-in-Ok-clause-leads : goal.returns-in-Ok-clause-leads
returns-in-Ok-clause-leads g c = λ unspent look trees top tree marks known shown revs le stands other leads.
    let s = c.args.self.now in
    c.in-Ok.ensures.still look trees top s.base tree marks known shown le (is_tree look trees top s.base (g.N.Own.txn s.own) (g.N.Own.settled s.own) tree marks revs stands) stands.shows other leads

pub returns-in-Err-clause-leads : goal.returns-in-Err-clause-leads
returns-in-Err-clause-leads g c = λ unspent look trees top tree marks known shown revs le stands other leads.
    let s = c.args.self.now in
    let kept : g.N.Own.settled c.failed.new.self.own ≡ g.N.Own.settled c.set_settled.new.own = λ i. g.N.Own.settled (c.failed.ensures.spent i).own in
    subst (λ (f : Folder). IfLeft c.failed.result (Leads look (g.N.Own.txn s.own) f other)) (sym kept)
    (subst (λ (e : TxnError). IfLeft e (Leads look (g.N.Own.txn s.own) (g.N.Own.settled c.set_settled.new.own) other)) (sym c.failed.ensures.error)
    (c.in-Err.ensures.still look trees top s.base tree marks known shown le (is_tree look trees top s.base (g.N.Own.txn s.own) (g.N.Own.settled s.own) tree marks revs stands) stands.shows other leads))
