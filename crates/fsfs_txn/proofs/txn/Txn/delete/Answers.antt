use Rattle.std.proofs.Common.{◌≡◌, sym, subst}
use Rattle.std.specs.Prelude.{Ok}
use Rattle.fsfs_draft.specs.Drafts.{Folder}
use Rattle.fsfs_txn.specs.declared.txn_error.TxnError.{TxnError}
use Rattle.fsfs_draft.specs.Errors as errors
use Rattle.fsfs_txn.specs.Spending.{IfStays}
use Rattle.fsfs_txn.specs.Edits.Deleting.{IsDeleting}
use Rattle.fsfs_txn.proofs.Meeting.{deleted_over}
use Rattle.fsfs_txn.proofs.txn.Txn.delete.Goals as goal

pub returns-in-Ok-delete_named-clause-meets : goal.returns-in-Ok-delete_named-clause-meets
returns-in-Ok-delete_named-clause-meets g c = λ unspent look trees top tree marks knows shown revs le stands.
    let s = c.args.self.now in
    let kept : g.N.Own.settled c.count.new.self.own ≡ g.N.Own.settled c.delete_named.new.own = λ i. g.N.Own.settled (c.count.ensures i).own in
    subst (λ (f : Folder). IsDeleting IfStays look trees top s.base (g.N.Own.txn s.own) stands.shows.0.shows.own tree marks c.args.path.now (g.N.Own.settled s.own) f (Ok c.in-Ok-delete_named.outcome)) (sym kept)
    (deleted_over errors.IfStays IfStays look trees top s.base (g.N.Own.txn s.own) stands.shows.0.shows.own tree marks c.args.path.now (g.N.Own.settled s.own) (g.N.Own.settled c.delete_named.new.own) c.in-Ok-delete_named.outcome
    (c.in-Ok-delete_named.ensures.deletes look trees top s.base tree marks knows shown revs le stands))

pub returns-in-Err-delete_named-clause-meets : goal.returns-in-Err-delete_named-clause-meets
returns-in-Err-delete_named-clause-meets g c = λ unspent look trees top tree marks knows shown revs le stands.
    let s = c.args.self.now in
    let kept : g.N.Own.settled c.failed.new.self.own ≡ g.N.Own.settled c.delete_named.new.own = λ i. g.N.Own.settled (c.failed.ensures.spent i).own in
    subst (λ (f : Folder). IfStays c.failed.result (f ≡ g.N.Own.settled s.own)) (sym kept)
    (subst (λ (e : TxnError). IfStays e (g.N.Own.settled c.delete_named.new.own ≡ g.N.Own.settled s.own)) (sym c.failed.ensures.error)
    (c.in-Err-delete_named.ensures.deletes look trees top s.base tree marks knows shown revs le stands))
