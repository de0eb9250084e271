use Rattle.std.proofs.Common.{refl, lit<, arith}
use Rattle.std.proofs.lemmas.Result.{err_from_is_err_and}
use Rattle.fsfs_revision.specs.Rep.Headers.{plain_line}
use Rattle.fsfs_revision.proofs.HeaderLemmas.{plain_seen, delta_seen, other_seen, stands_fits}
use Rattle.fsfs_revision.proofs.FaultLemmas.{none_wrong, delta_fault, header_fault, about_rev, about_wrong}
use Rattle.fsfs_revision.proofs.ReadingLemmas.{at_rev}
use Rattle.fsfs_revision.proofs.rep.rep_reader.RepReader.begin.Goals as goal

pub returns-in_err-count-clause-bytes : goal.returns-in_err-count-clause-bytes
returns-in_err-count-clause-bytes g c = λ bytes e.
    let p = err_from_is_err_and c.from_residual.result c.from_residual.ensures.1 in
    let told = at_rev (g.B.Book.told c.args.book.now).revs c.args.rep.now.rev _ _ c.in-Some.is e in
    rw (p.1, p.2) (none_wrong _ _ (c.in_err-count.ensures.bytes bytes told))

pub returns-in_err-count-clause-refused : goal.returns-in_err-count-clause-refused
returns-in_err-count-clause-refused g c = λ why e.
    let p = err_from_is_err_and c.from_residual.result c.from_residual.ensures.1 in
    let told = at_rev (g.B.Book.told c.args.book.now).revs c.args.rep.now.rev _ _ c.in-Some.is e in
    rw (p.1, p.2) (c.in_err-count.ensures.refused why told)

pub returns-in-Plain-clause-bytes : goal.returns-in-Plain-clause-bytes
returns-in-Plain-clause-bytes g c = λ bytes e.
    let told = at_rev (g.B.Book.told c.args.book.now).revs c.args.rep.now.rev _ _ c.in-Some.is e in
    let plain = plain_seen _ c.args.rep.now.offset bytes (c.in_ok-count.ensures.bytes bytes told) c.in-Plain.ensures in
    record { header = plain; within = omega (arith, stands_fits plain_line c.args.rep.now.offset bytes (lit< tt) plain); seen = c.of.ensures.seen }

pub returns-in-Plain-clause-refused : goal.returns-in-Plain-clause-refused
returns-in-Plain-clause-refused g c = λ why e. c.in_ok-count.ensures.refused why (at_rev (g.B.Book.told c.args.book.now).revs c.args.rep.now.rev _ _ c.in-Some.is e)

pub returns-in-Delta-clause-bytes : goal.returns-in-Delta-clause-bytes
returns-in-Delta-clause-bytes g c = λ bytes e.
    let told = at_rev (g.B.Book.told c.args.book.now).revs c.args.rep.now.rev _ _ c.in-Some.is e in
    delta_fault c.args.rep.now bytes _ c.rep_place.ensures (delta_seen _ c.args.rep.now.offset bytes (c.in_ok-count.ensures.bytes bytes told) c.in-Delta.ensures)

pub returns-in-Delta-clause-refused : goal.returns-in-Delta-clause-refused
returns-in-Delta-clause-refused g c = λ why e. absurd (c.in_ok-count.ensures.refused why (at_rev (g.B.Book.told c.args.book.now).revs c.args.rep.now.rev _ _ c.in-Some.is e))

pub returns-in-Other-clause-bytes : goal.returns-in-Other-clause-bytes
returns-in-Other-clause-bytes g c = λ bytes e.
    let told = at_rev (g.B.Book.told c.args.book.now).revs c.args.rep.now.rev _ _ c.in-Some.is e in
    header_fault c.args.rep.now bytes _ c.bad_rep.ensures (other_seen _ c.args.rep.now.offset bytes (c.in_ok-count.ensures.bytes bytes told) c.in-Other.ensures)

pub returns-in-Other-clause-refused : goal.returns-in-Other-clause-refused
returns-in-Other-clause-refused g c = λ why e. absurd (c.in_ok-count.ensures.refused why (at_rev (g.B.Book.told c.args.book.now).revs c.args.rep.now.rev _ _ c.in-Some.is e))

pub returns-in_err-count-clause-about : goal.returns-in_err-count-clause-about
returns-in_err-count-clause-about g c =
    let p = err_from_is_err_and c.from_residual.result c.from_residual.ensures.1 in
    rw (p.1, p.2) (about_rev c.args.rep.now _ _ c.in-Some.is c.in_err-count.ensures.names)

pub returns-in-Other-clause-about : goal.returns-in-Other-clause-about
returns-in-Other-clause-about g c = about_wrong c.args.rep.now _ _ c.bad_rep.ensures (refl, tt)
