use Rattle.std.proofs.Common.{◌≡◌, ℕ, ◌+◌, ◌<◌, ◌≤◌, List, length, take, drop, refl, sym, subst, ◌∙◌, arith}
use Rattle.std.proofs.lemmas.List.{length-take}
use Rattle.std.proofs.lemmas.Result.{err_from_is_err_and}
use Rattle.fsfs_revision.specs.Rep.Seen.{HasSeenNamed}
use Rattle.fsfs_revision.proofs.FaultLemmas.{none_wrong, end_fault, about_rev, about_wrong}
use Rattle.fsfs_revision.proofs.ReadingLemmas.{at_rev, text_ends, piece_within, piece_adds, piece_read}
use Rattle.fsfs_revision.proofs.rep.rep_reader.RepReader.next.Goals as goal

pub returns-in_err-count-clause-bytes : goal.returns-in_err-count-clause-bytes
returns-in_err-count-clause-bytes g c = λ bytes e reading.
    let p = err_from_is_err_and c.from_residual.result c.from_residual.ensures.1 in
    let told = at_rev (g.B.Book.told c.args.book.now).revs c.args.self.now.rep.rev _ _ c.in-Some.is e in
    rw (p.1, p.2) (none_wrong _ _ (c.in_err-count.ensures.bytes bytes told))

pub returns-in_err-count-clause-refused : goal.returns-in_err-count-clause-refused
returns-in_err-count-clause-refused g c = λ why e.
    let p = err_from_is_err_and c.from_residual.result c.from_residual.ensures.1 in
    let told = at_rev (g.B.Book.told c.args.book.now).revs c.args.self.now.rep.rev _ _ c.in-Some.is e in
    rw (p.1, p.2) (c.in_err-count.ensures.refused why told)

pub returns-then-count-want-clause-bytes : goal.returns-then-count-want-clause-bytes
returns-then-count-want-clause-bytes g c = λ bytes e reading.
    let rep = c.args.self.now.rep in
    let want = c.fitting-want.result in
    let told = at_rev (g.B.Book.told c.args.book.now).revs rep.rev _ _ c.in-Some.is e in
    let short = g.met.B.Book.fits c.args.book.now _ bytes told in
    let at : c.position.result ≡ rep.offset + 6 + c.args.self.now.done = c.position.ensures (omega (arith, short, reading.within)) in
    let room : length (take want c.args.buffer.now) ≡ want = omega (arith, length-take want c.args.buffer.now, c.fitting-want.ensures) in
    let window = subst (λ (n : ℕ). take c.in_ok-count.count c.window.new.buffer ≡ take n (drop c.position.result bytes)) room (c.in_ok-count.ensures.bytes bytes told) in
    end_fault rep bytes _ c.bad_rep.ensures reading.header (text_ends rep.offset rep.length c.args.self.now.done c.position.result c.in_ok-count.count want c.window.new.buffer bytes c.in_ok-count.ensures.bound window c.if-count-want.true at (omega (arith, c.fitting-want.ensures, c.args.self.now.bounded)))

pub returns-then-count-want-clause-refused : goal.returns-then-count-want-clause-refused
returns-then-count-want-clause-refused g c = λ why e. absurd (c.in_ok-count.ensures.refused why (at_rev (g.B.Book.told c.args.book.now).revs c.args.self.now.rep.rev _ _ c.in-Some.is e))

pub returns-clause-bytes : goal.returns-clause-bytes
returns-clause-bytes g c = λ bytes e reading.
    let rep = c.args.self.now.rep in
    let done = c.args.self.now.done in
    let want = c.fitting-want.result in
    let count = c.in_ok-count.count in
    let piece = c.window.new.buffer in
    let told = at_rev (g.B.Book.told c.args.book.now).revs rep.rev _ _ c.in-Some.is e in
    let short = g.met.B.Book.fits c.args.book.now _ bytes told in
    let at : c.position.result ≡ rep.offset + 6 + done = c.position.ensures (omega (arith, short, reading.within)) in
    let room : length (take want c.args.buffer.now) ≡ want = omega (arith, length-take want c.args.buffer.now, c.fitting-want.ensures) in
    let whole : length piece ≡ want = c.window.auto.buffer ∙ room in
    let window = subst (λ (n : ℕ). take count piece ≡ take n (drop c.position.result bytes)) room (c.in_ok-count.ensures.bytes bytes told) in
    let bound = c.in_ok-count.ensures.bound in
    let enough : want ≤ count = c.if-count-want.false in
    let some : 0 < want = omega (arith, c.if-want-eq0.false) in
    let fits : done + want ≤ rep.length = omega (arith, c.fitting-want.ensures, c.args.self.now.bounded) in
    let adds = piece_adds rep.offset rep.length done c.position.result count want piece bytes whole bound window enough at in (
      record {
        header = reading.header;
        within = piece_within rep.offset rep.length done c.position.result count want piece bytes whole bound window enough at some;
        seen = subst (λ (text : List ℕ). HasSeenNamed c.update.new.self text) (sym adds) (c.update.ensures.seen _ reading.seen);
      },
      piece_read rep.offset rep.length done c.position.result count want piece bytes whole bound window enough at (drop want c.args.buffer.now) fits,
    )

pub returns-in_err-count-clause-about : goal.returns-in_err-count-clause-about
returns-in_err-count-clause-about g c =
    let p = err_from_is_err_and c.from_residual.result c.from_residual.ensures.1 in
    rw (p.1, p.2) (about_rev c.args.self.now.rep _ _ c.in-Some.is c.in_err-count.ensures.names)

pub returns-then-count-want-clause-about : goal.returns-then-count-want-clause-about
returns-then-count-want-clause-about g c = about_wrong c.args.self.now.rep _ _ c.bad_rep.ensures (refl, tt)
