use Rattle.std.proofs.Common.{sym, subst}
use Rattle.fsfs_draft.specs.declared.walk.Step.{Step}
use Rattle.fsfs_txn.specs.Getting.{ReadsProps}
use Rattle.fsfs_txn.proofs.getting.props_of.Goals as goal

pub returns-in-Own-clause-told : goal.returns-in-Own-clause-told
returns-in-Own-clause-told g c = subst (λ (s : Step). ReadsProps (g.B.Book.told c.args.book.now).revs (g.N.Own.txn c.args.own.now) (g.N.Own.folder c.args.own.now) s c.own_props.result) (sym c.in-Own.is) c.own_props.ensures.told

pub returns-in-Lasting-clause-told : goal.returns-in-Lasting-clause-told
returns-in-Lasting-clause-told g c = subst (λ (s : Step). ReadsProps (g.B.Book.told c.args.book.now).revs (g.N.Own.txn c.args.own.now) (g.N.Own.folder c.args.own.now) s c.lasting_props.result) (sym c.in-Lasting.is) (c.lasting_props.ensures.told (g.N.Own.txn c.args.own.now) (g.N.Own.folder c.args.own.now))

pub returns-in-Lasting-clause-bench : goal.returns-in-Lasting-clause-bench
returns-in-Lasting-clause-bench g c = c.lasting_props.ensures.quiet (g.N.Own.faults c.args.own.now)
