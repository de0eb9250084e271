use Rattle.std.proofs.Common.{subst}
use Rattle.std.specs.Prelude.{Ok, Err}
use Rattle.std.proofs.lemmas.Result.{err_from_is_err_and}
use Rattle.fsfs_revision.proofs.Keeping.{keeps_trans}
use Rattle.fsfs_txn.specs.declared.seeing.Seen.{Seen}
use Rattle.fsfs_txn.specs.Seeing.{IsSeen}
use Rattle.fsfs_txn.proofs.Looking.{same_sees}
use Rattle.fsfs_txn.proofs.Leading.{LeadsOver, same_leading}
use Rattle.fsfs_txn.proofs.opening.open_settled.Goals as goal

pub returns-in_err-depth-clause-opens : goal.returns-in_err-depth-clause-opens
returns-in_err-depth-clause-opens g c = λ look trees top base tree marks knows shown le is_tree d.
    let r = err_from_is_err_and c.from_residual.result c.from_residual.ensures.1 in
    let sees = same_sees (g.B.Book.told c.args.book.now).revs (g.N.Own.txn c.forget.new.self) (g.N.Own.txn c.args.own.now) (g.N.Own.folder c.forget.new.self) (g.N.Own.settled c.args.own.now) c.args.path.now (Err c.in_err-depth.field-0.0)
    c.forget.ensures.name c.forget.ensures.back c.in_err-depth.ensures.sees in
    rw (r.1, r.2) (sees look trees top base tree marks knows shown le is_tree d)

pub returns-in-Absent-clause-opens : goal.returns-in-Absent-clause-opens
returns-in-Absent-clause-opens g c = λ look trees top base tree marks knows shown le is_tree d.
    let sees = same_sees (g.B.Book.told c.args.book.now).revs (g.N.Own.txn c.forget.new.self) (g.N.Own.txn c.args.own.now) (g.N.Own.folder c.forget.new.self) (g.N.Own.settled c.args.own.now) c.args.path.now (Ok c.in_ok-depth.field-0)
    c.forget.ensures.name c.forget.ensures.back c.in_ok-depth.ensures.sees in
    subst (λ (x : Seen). IsSeen look trees base d.0.shows.own tree c.args.path.now (Ok x)) c.in-Absent.is (sees look trees top base tree marks knows shown le is_tree d)

pub returns-in-File-clause-opens : goal.returns-in-File-clause-opens
returns-in-File-clause-opens g c = λ look trees top base tree marks knows shown le is_tree d.
    let sees = same_sees (g.B.Book.told c.args.book.now).revs (g.N.Own.txn c.forget.new.self) (g.N.Own.txn c.args.own.now) (g.N.Own.folder c.forget.new.self) (g.N.Own.settled c.args.own.now) c.args.path.now (Ok c.in_ok-depth.field-0)
    c.forget.ensures.name c.forget.ensures.back c.in_ok-depth.ensures.sees in
    subst (λ (x : Seen). IsSeen look trees base d.0.shows.own tree c.args.path.now (Ok x)) c.in-File.is (sees look trees top base tree marks knows shown le is_tree d)

pub returns-in_err-way-in-Node-clause-opens : goal.returns-in_err-way-in-Node-clause-opens
returns-in_err-way-in-Node-clause-opens g c = λ look trees top base tree marks knows shown le is_tree d.
    let r = err_from_is_err_and c.from_residual-in_err-way-in-Node.result c.from_residual-in_err-way-in-Node.ensures.1 in
    rw (r.1, r.2) c.in_err-way-in-Node.ensures.failure

pub returns-in_err-way-in-Node-clause-kept : goal.returns-in_err-way-in-Node-clause-kept
returns-in_err-way-in-Node-clause-kept g c = keeps_trans _ _ _ c.in_ok-depth.ensures.kept c.in_err-way-in-Node.ensures.kept

pub returns-in_ok-way-in-Node-clause-opens : goal.returns-in_ok-way-in-Node-clause-opens
returns-in_ok-way-in-Node-clause-opens g c = λ look trees top base tree marks knows shown le is_tree d.
    let sees = same_sees (g.B.Book.told c.args.book.now).revs (g.N.Own.txn c.forget.new.self) (g.N.Own.txn c.args.own.now) (g.N.Own.folder c.forget.new.self) (g.N.Own.settled c.args.own.now) c.args.path.now (Ok c.in_ok-depth.field-0)
    c.forget.ensures.name c.forget.ensures.back c.in_ok-depth.ensures.sees in
    let node = subst (λ (x : Seen). IsSeen look trees base d.0.shows.own tree c.args.path.now (Ok x)) c.in-Node.is (sees look trees top base tree marks knows shown le is_tree d) in
    (node.1, node.2)

pub returns-in_ok-way-in-Node-clause-known : goal.returns-in_ok-way-in-Node-clause-known
returns-in_ok-way-in-Node-clause-known g c = λ look top knows. c.in_ok-way-in-Node.ensures.known look top (λ n h. c.in_ok-depth.ensures.kept.revs n (look n) (knows n h))

pub returns-in_ok-way-in-Node-clause-kept : goal.returns-in_ok-way-in-Node-clause-kept
returns-in_ok-way-in-Node-clause-kept g c = keeps_trans _ _ _ c.in_ok-depth.ensures.kept c.in_ok-way-in-Node.ensures.kept

pub returns-in_ok-way-in-Node-clause-leads : goal.returns-in_ok-way-in-Node-clause-leads
returns-in_ok-way-in-Node-clause-leads g c =
    let over : LeadsOver (g.B.Book.told c.args.book.now).revs (g.N.Own.txn c.forget.new.self) (g.N.Own.folder c.forget.new.self) c.in_ok-way-in-Node.way = λ look trees top base tree marks knows shown le is_tree d.
    (let node = subst (λ (x : Seen). IsSeen look trees base d.0.shows.own tree c.args.path.now (Ok x)) c.in-Node.is (c.in_ok-depth.ensures.sees look trees top base tree marks knows shown le is_tree d) in
    c.in_ok-way-in-Node.ensures.leads look trees top base tree marks c.in-Node.child.kind (λ n h. c.in_ok-depth.ensures.kept.revs n (look n) (knows n h)) shown le is_tree d node.1) in
    same_leading (g.B.Book.told c.args.book.now).revs (g.N.Own.txn c.forget.new.self) (g.N.Own.txn c.args.own.now) (g.N.Own.folder c.forget.new.self) (g.N.Own.settled c.args.own.now) c.in_ok-way-in-Node.way c.forget.ensures.name c.forget.ensures.back over
