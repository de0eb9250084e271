use Rattle.std.proofs.Common.{◌≡◌, sym, subst}
use Rattle.std.specs.Prelude.{Ok}
use Rattle.fsfs_draft.specs.Drafts.{Folder}
use Rattle.fsfs_txn.specs.declared.txn_error.TxnError.{TxnError}
use Rattle.fsfs_draft.specs.Errors as errors
use Rattle.fsfs_txn.specs.Spending.{IfStays}
use Rattle.fsfs_txn.specs.Edits.Copying.{IsCopying}
use Rattle.fsfs_txn.proofs.Meeting.{copied_over}
use Rattle.fsfs_txn.proofs.txn.Txn.copy.Goals as goal

pub returns-in-Ok-copy_named-clause-meets : goal.returns-in-Ok-copy_named-clause-meets
returns-in-Ok-copy_named-clause-meets g c = λ unspent look trees top tree marks knows shown revs le young stands.
    let s = c.args.self.now in
    let kept : g.N.Own.settled c.count.new.self.own ≡ g.N.Own.settled c.copy_named.new.own = λ i. g.N.Own.settled (c.count.ensures i).own in
    subst (λ (f : Folder). IsCopying IfStays look trees top s.base (g.N.Own.txn s.own) stands.shows.0.shows.own tree marks c.args.to.now c.args.from.now (g.N.Own.settled s.own) f (Ok c.in-Ok-copy_named.outcome)) (sym kept)
    (copied_over errors.IfStays IfStays look trees top s.base (g.N.Own.txn s.own) stands.shows.0.shows.own tree marks c.args.to.now c.args.from.now (g.N.Own.settled s.own) (g.N.Own.settled c.copy_named.new.own) c.in-Ok-copy_named.outcome
    (c.in-Ok-copy_named.ensures.copies look trees top s.base tree marks knows shown revs le young stands))

pub returns-in-Err-copy_named-clause-meets : goal.returns-in-Err-copy_named-clause-meets
returns-in-Err-copy_named-clause-meets g c = λ unspent look trees top tree marks knows shown revs le young stands.
    let s = c.args.self.now in
    let kept : g.N.Own.settled c.failed.new.self.own ≡ g.N.Own.settled c.copy_named.new.own = λ i. g.N.Own.settled (c.failed.ensures.spent i).own in
    subst (λ (f : Folder). IfStays c.failed.result (f ≡ g.N.Own.settled s.own)) (sym kept)
    (subst (λ (e : TxnError). IfStays e (g.N.Own.settled c.copy_named.new.own ≡ g.N.Own.settled s.own)) (sym c.failed.ensures.error)
    (c.in-Err-copy_named.ensures.copies look trees top s.base tree marks knows shown revs le young stands))
