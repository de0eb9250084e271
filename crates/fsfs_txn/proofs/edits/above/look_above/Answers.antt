use Rattle.std.proofs.Common.{◌≡◌, ◌-◌, ℕ, length, take, ap, ◌∙◌, arith}
use Rattle.std.specs.Prelude.{Ok, Err}
use Rattle.std.proofs.lemmas.Result.{err_from_is_err_and}
use Rattle.fsfs_revision.specs.Told.{Knows}
use Rattle.fsfs_model.specs.Flat.Edits.{parent}
use Rattle.fsfs_txn.proofs.Looking.{same_sees, same_from}
use Rattle.fsfs_txn.proofs.edits.above.look_above.Goals as goal

pub returns-in_err-seen-clause-sees : goal.returns-in_err-seen-clause-sees
returns-in_err-seen-clause-sees g c = λ look trees top base tree marks knows shown le is_tree d.
    let r = err_from_is_err_and c.from_residual.result c.from_residual.ensures.1 in
    let sees = same_sees (g.B.Book.told c.args.book.now).revs (g.N.Own.txn c.forget.new.self) (g.N.Own.txn c.args.own.now) (g.N.Own.folder c.forget.new.self) (g.N.Own.settled c.args.own.now) c.in-Ok.dir (Err c.in_err-seen.field-0.0)
    c.forget.ensures.name c.forget.ensures.back c.in_err-seen.ensures.sees in
    rw (r.1, r.2) (sees look trees top base tree marks knows shown le is_tree d)

pub returns-clause-sees : goal.returns-clause-sees
returns-clause-sees g c = λ look trees top base tree marks knows shown le is_tree d.
    let path = c.args.path.now in
    let txn = g.N.Own.txn c.args.own.now in
    let f = g.N.Own.settled c.args.own.now in
    let count : c.saturating_sub.result ≡ length path - 1 = omega (arith, c.saturating_sub.ensures, c.depth.ensures) in
    let dir_is : c.in-Ok.dir ≡ parent path = c.in-Ok.ensures ∙ ap (λ (n : ℕ). take n path) count in
    let later : Knows (g.B.Book.told c.seen_on.new.book).revs top look = λ n h. c.in_ok-seen.ensures.kept.revs n (look n) (knows n h) in
    let sees = same_sees (g.B.Book.told c.args.book.now).revs (g.N.Own.txn c.forget.new.self) txn (g.N.Own.folder c.forget.new.self) f c.in-Ok.dir (Ok c.in_ok-seen.seen)
    c.forget.ensures.name c.forget.ensures.back c.in_ok-seen.ensures.sees in
    let from = same_from (g.B.Book.told c.seen_on.new.book).revs (g.N.Own.txn c.forget.new.self) txn (g.N.Own.folder c.forget.new.self) f c.in-Ok.dir c.args.name.now c.in_ok-seen.seen c.above_of.result
    c.forget.ensures.name c.forget.ensures.back c.above_of.ensures.sees in
    from look trees top base tree marks path later shown le d dir_is c.requires.last (sees look trees top base tree marks knows shown le is_tree d)
