use Rattle.std.proofs.Common.{drop, arith}
use Rattle.std.proofs.lemmas.Result.{err_from_is_err_and}
use Rattle.fsfs_revision.proofs.FaultLemmas.{none_wrong}
use Rattle.fsfs_revision.proofs.ReadingLemmas.{at_rev}
use Rattle.fsfs_look.proofs.PieceLemmas.{piece_some, piece_next}
use Rattle.fsfs_dump.proofs.again.read_piece.Goals as goal

pub returns-in_err-count-clause-told : goal.returns-in_err-count-clause-told
returns-in_err-count-clause-told g c = λ bytes e whole.
    let told = at_rev (g.B.Book.told c.args.book.now).revs c.args.rep.now.rev _ _ c.in-Some.is e in
    let p = err_from_is_err_and c.from_residual.result c.from_residual.ensures.1 in
    rw (p.1, p.2) (none_wrong _ _ (c.in_err-count.ensures.bytes bytes told))

pub returns-then-count-eq0-clause-told : goal.returns-then-count-eq0-clause-told
returns-then-count-eq0-clause-told g c = λ bytes e whole.
    let told = at_rev (g.B.Book.told c.args.book.now).revs c.args.rep.now.rev _ _ c.in-Some.is e in
    let long = g.met.B.Book.fits c.args.book.now _ bytes told in
    let some = piece_some c.args.rep.now bytes whole long c.args.done c.position.result c.fitting-want.result c.args.piece.now c.requires.left c.requires.room c.position.ensures c.fitting-want.ensures
    c.window.new.buffer c.in_ok-count.count c.window.auto.buffer c.in_ok-count.ensures.bound (c.in_ok-count.ensures.bytes bytes told) in
    absurd (omega (arith, some, c.if-count-eq0.true))

pub returns-clause-told : goal.returns-clause-told
returns-clause-told g c = λ bytes e whole.
    let told = at_rev (g.B.Book.told c.args.book.now).revs c.args.rep.now.rev _ _ c.in-Some.is e in
    let long = g.met.B.Book.fits c.args.book.now _ bytes told in
    piece_next c.args.rep.now bytes whole long c.args.done c.position.result c.fitting-want.result c.args.piece.now c.requires.left c.requires.room c.position.ensures c.fitting-want.ensures
    c.window.new.buffer c.in_ok-count.count c.window.auto.buffer c.in_ok-count.ensures.bound (c.in_ok-count.ensures.bytes bytes told) (drop c.fitting-want.result c.args.piece.now)
