use Rattle.fsfs_txn.proofs.Viewing.{same_got, same_got_text}
use Rattle.fsfs_txn.proofs.getting.got_settled.Goals as goal

pub returns-clause-gets : goal.returns-clause-gets
returns-clause-gets g c =
    same_got (g.B.Book.told c.args.book.now).revs (g.N.Own.txn c.forget.new.self) (g.N.Own.txn c.args.own.now) (g.N.Own.folder c.forget.new.self) (g.N.Own.settled c.args.own.now) c.args.path.now c.got_at.result
    c.forget.ensures.name c.forget.ensures.back c.got_at.ensures.gets

pub returns-clause-text : goal.returns-clause-text
returns-clause-text g c =
    same_got_text (g.B.Book.told c.args.book.now).revs (g.N.Own.txn c.forget.new.self) (g.N.Own.txn c.args.own.now) (g.N.Own.folder c.forget.new.self) (g.N.Own.settled c.args.own.now) c.args.path.now c.got_at.result
    c.forget.ensures.name c.forget.ensures.back c.got_at.ensures.text
