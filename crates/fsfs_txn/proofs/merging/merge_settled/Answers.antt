use Rattle.fsfs_txn.proofs.Landing.{landed, same_landed}
use Rattle.fsfs_txn.proofs.merging.merge_settled.Goals as goal

pub returns-clause-merges : goal.returns-clause-merges
returns-clause-merges g c = λ look trees top tree marks knows shows less within stands.
    let txn = g.N.Own.txn c.args.own.now in
    let f = g.N.Own.settled c.args.own.now in
    let after = g.N.Own.settled c.merge.new.own in
    landed look trees top c.args.base c.args.head txn f tree marks less within stands after c.merge.result
    (same_landed (g.B.Book.told c.args.book.now).revs c.args.base c.args.head (g.N.Own.txn c.forget.new.self) txn (g.N.Own.settled c.forget.new.self) f after c.merge.result c.forget.ensures.name c.forget.ensures.settled c.merge.ensures.draft look top trees tree marks knows shows less within stands.edits stands.shows)
