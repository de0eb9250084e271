use Rattle.fsfs_txn.proofs.Putting.{same_put}
use Rattle.fsfs_txn.proofs.Leading.{same_all, same_still}
use Rattle.fsfs_txn.proofs.edits.texts.put_settled.Goals as goal

pub returns-clause-meets : goal.returns-clause-meets
returns-clause-meets g c =
    same_put _ (g.N.Own.txn c.forget.new.self) (g.N.Own.txn c.args.own.now) (g.N.Own.settled c.forget.new.self) (g.N.Own.settled c.args.own.now) (g.N.Own.settled c.put_text.new.own) c.args.way.now (g.I.Source.remaining c.args.source.now) (g.I.Source.remaining c.put_text.new.source) c.args.expect c.put_text.result
    c.forget.ensures.name c.forget.ensures.settled c.put_text.ensures.meets

pub returns-clause-all : goal.returns-clause-all
returns-clause-all g c = same_all (g.N.Own.txn c.forget.new.self) (g.N.Own.txn c.args.own.now) (g.N.Own.settled c.forget.new.self) (g.N.Own.settled c.args.own.now) c.args.way.now c.put_text.result c.forget.ensures.name c.forget.ensures.settled c.put_text.ensures.all

pub returns-clause-still : goal.returns-clause-still
returns-clause-still g c =
    same_still (g.N.Own.txn c.forget.new.self) (g.N.Own.txn c.args.own.now) (g.N.Own.settled c.forget.new.self) (g.N.Own.settled c.args.own.now) (g.N.Own.settled c.put_text.new.own) c.args.way.now c.put_text.result c.forget.ensures.name c.forget.ensures.settled c.put_text.ensures.still
