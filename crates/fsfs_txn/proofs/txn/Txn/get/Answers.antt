use Rattle.std.proofs.Common.{sym, subst}
use Rattle.fsfs_txn.specs.declared.txn_error.TxnError.{TxnError}
use Rattle.fsfs_txn.specs.Spending.{IsFailure}
use Rattle.fsfs_txn.proofs.Meeting.{is_tree}
use Rattle.fsfs_txn.proofs.txn.Txn.get.Goals as goal

pub returns-in-Ok-clause-meets : goal.returns-in-Ok-clause-meets
returns-in-Ok-clause-meets g c = λ unspent look trees top tree marks knows shown revs le stands.
    c.in-Ok.ensures.gets look trees top c.args.self.now.base tree marks knows shown le (is_tree look trees top c.args.self.now.base (g.N.Own.txn c.args.self.now.own) (g.N.Own.settled c.args.self.now.own) tree marks revs stands) stands.shows

pub returns-in-Err-clause-meets : goal.returns-in-Err-clause-meets
returns-in-Err-clause-meets g c = λ unspent look trees top tree marks knows shown revs le stands.
    subst (λ (e : TxnError). IsFailure e) (sym c.failed.ensures.error)
    (c.in-Err.ensures.gets look trees top c.args.self.now.base tree marks knows shown le (is_tree look trees top c.args.self.now.base (g.N.Own.txn c.args.self.now.own) (g.N.Own.settled c.args.self.now.own) tree marks revs stands) stands.shows)

pub returns-in-Ok-clause-text : goal.returns-in-Ok-clause-text
returns-in-Ok-clause-text g c = λ unspent look trees top tree marks knows shown revs le stands.
    c.in-Ok.ensures.text look trees top c.args.self.now.base tree marks knows shown le (is_tree look trees top c.args.self.now.base (g.N.Own.txn c.args.self.now.own) (g.N.Own.settled c.args.self.now.own) tree marks revs stands) stands.shows
