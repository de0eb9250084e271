use Rattle.std.proofs.Common.{sym, subst}
use Rattle.fsfs_draft.specs.Errors as errors
use Rattle.fsfs_txn.specs.declared.txn_error.TxnError.{TxnError}
use Rattle.fsfs_txn.specs.Spending.{IsFailure}
use Rattle.fsfs_txn.proofs.Meeting.{is_tree, opened_over}
use Rattle.fsfs_txn.specs.Opened.Leading.{Leads}
use Rattle.fsfs_txn.specs.declared.opening.Opened.{Opened}
use Rattle.fsfs_txn.proofs.Leading.{opened_as}
use Rattle.fsfs_txn.proofs.txn.Txn.open_path.Goals as goal

pub returns-in-Ok-clause-meets : goal.returns-in-Ok-clause-meets
returns-in-Ok-clause-meets g c = λ unspent look trees top tree marks knows shown revs le stands.
    let s = c.args.self.now in
    opened_over errors.IsFailure IsFailure look trees s.base stands.shows.0.shows.own tree c.args.path.now c.in-Ok.opened
    (c.in-Ok.ensures.opens look trees top s.base tree marks knows shown le (is_tree look trees top s.base (g.N.Own.txn s.own) (g.N.Own.settled s.own) tree marks revs stands) stands.shows)

pub returns-in-Err-clause-meets : goal.returns-in-Err-clause-meets
returns-in-Err-clause-meets g c = λ unspent look trees top tree marks knows shown revs le stands.
    subst (λ (e : TxnError). IsFailure e) (sym c.failed.ensures.error)
    (c.in-Err.ensures.opens look trees top c.args.self.now.base tree marks knows shown le (is_tree look trees top c.args.self.now.base (g.N.Own.txn c.args.self.now.own) (g.N.Own.settled c.args.self.now.own) tree marks revs stands) stands.shows)

pub returns-in-Ok-clause-leads : goal.returns-in-Ok-clause-leads
returns-in-Ok-clause-leads g c = λ unspent look trees top tree marks knows shown revs le stands.
    let s = c.args.self.now in
    opened_as (λ (opened : Opened). Leads look (g.N.Own.txn s.own) (g.N.Own.settled s.own) opened.way) c.in-Ok.opened
    (c.in-Ok.ensures.leads look trees top s.base tree marks knows shown le (is_tree look trees top s.base (g.N.Own.txn s.own) (g.N.Own.settled s.own) tree marks revs stands) stands.shows)
