use Rattle.std.proofs.Common.{◌≡◌, ℕ, ◌+◌, take, drop, subst, ap, ◌∙◌, refl, arith}
use Rattle.std.specs.Prelude.{codes}
use Rattle.fsfs_revision.specs.Rep.Headers.{StandsAt}
use Rattle.fsfs_revision.specs.Rep.Frames.{IsFramed}
use Rattle.std.proofs.lemmas.Result.{err_from_is_err_and, MatchResult-weaker}
use Rattle.fsfs_revision.specs.Rep.Seen.{HasSeenNamed}
use Rattle.fsfs_revision.proofs.ReadingLemmas.{at_rev, trailer_not, trailer_found}
use Rattle.fsfs_revision.proofs.FaultLemmas.{none_wrong, end_fault, fault_of, about_rev, about_wrong}
use Rattle.fsfs_revision.proofs.rep.rep_reader.RepReader.finish.Goals as goal

pub returns-in_err-count-clause-bytes : goal.returns-in_err-count-clause-bytes
returns-in_err-count-clause-bytes g c = λ bytes e reading.
    let p = err_from_is_err_and c.from_residual.result c.from_residual.ensures.1 in
    let told = at_rev (g.B.Book.told c.args.book.now).revs c.args.self.rep.rev _ _ c.in-Some.is e in
    rw (p.1, p.2) (none_wrong _ _ (c.in_err-count.ensures.bytes bytes told))

pub returns-in_err-count-clause-refused : goal.returns-in_err-count-clause-refused
returns-in_err-count-clause-refused g c = λ why e.
    let p = err_from_is_err_and c.from_residual.result c.from_residual.ensures.1 in
    let told = at_rev (g.B.Book.told c.args.book.now).revs c.args.self.rep.rev _ _ c.in-Some.is e in
    rw (p.1, p.2) (c.in_err-count.ensures.refused why told)

pub returns-in-Ok-clause-bytes : goal.returns-in-Ok-clause-bytes
returns-in-Ok-clause-bytes g c = λ bytes e reading.
    let rep = c.args.self.rep in
    let told = at_rev (g.B.Book.told c.args.book.now).revs rep.rev _ _ c.in-Some.is e in
    let short = g.met.B.Book.fits c.args.book.now _ bytes told in
    let here : c.position.result ≡ rep.offset + 6 + rep.length = c.position.ensures (omega (arith, short, reading.within)) ∙ ap (λ (n : ℕ). rep.offset + 6 + n) c.requires in
    let found = trailer_found _ _ c.position.result bytes (c.in_ok-count.ensures.bytes bytes told) c.in-Ok.ensures in
    let framed : IsFramed rep bytes = record { header = reading.header; trailer = subst (λ (p : ℕ). StandsAt (codes "ENDREP\n") p bytes) here found } in
    let seen = subst (λ (n : ℕ). HasSeenNamed c.args.self.digests (take n (drop (rep.offset + 6) bytes))) c.requires reading.seen in
    MatchResult-weaker c.agree.result (c.agree.ensures.text _ seen) (λ u agrees. record { framed = framed; agrees = agrees }) (λ fault d. fault_of rep bytes fault framed d)

pub returns-in-Ok-clause-cause : goal.returns-in-Ok-clause-cause
returns-in-Ok-clause-cause g c = c.agree.ensures.cause _ _ c.in_ok-count.ensures.cause.later

pub returns-in-Err-clause-bytes : goal.returns-in-Err-clause-bytes
returns-in-Err-clause-bytes g c = λ bytes e reading.
    let rep = c.args.self.rep in
    let told = at_rev (g.B.Book.told c.args.book.now).revs rep.rev _ _ c.in-Some.is e in
    let short = g.met.B.Book.fits c.args.book.now _ bytes told in
    let here : c.position.result ≡ rep.offset + 6 + rep.length = c.position.ensures (omega (arith, short, reading.within)) ∙ ap (λ (n : ℕ). rep.offset + 6 + n) c.requires in
    let lacks = trailer_not _ _ c.position.result bytes (c.in_ok-count.ensures.bytes bytes told) c.in-Err.ensures in
    end_fault rep bytes _ c.bad_rep.ensures reading.header (subst (λ (p : ℕ). StandsAt (codes "ENDREP\n") p bytes → ⊥) here lacks)

pub returns-in_err-count-clause-about : goal.returns-in_err-count-clause-about
returns-in_err-count-clause-about g c =
    let p = err_from_is_err_and c.from_residual.result c.from_residual.ensures.1 in
    rw (p.1, p.2) (about_rev c.args.self.rep _ _ c.in-Some.is c.in_err-count.ensures.names)

pub returns-in-Err-clause-about : goal.returns-in-Err-clause-about
returns-in-Err-clause-about g c = about_wrong c.args.self.rep _ _ c.bad_rep.ensures (refl, tt)
