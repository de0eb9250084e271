use Rattle.std.proofs.Common.{Ok, Err, ap, ◌∙◌}
use Rattle.std.proofs.lemmas.Result.{err_from_is_err_and}
use Rattle.sha1.specs.Sha1.{sha1}
use Rattle.fsfs_noderev.specs.declared.rep.Rep.{Rep}
use Rattle.fsfs_revision.specs.Rep.Frames.{text_of}
use Rattle.fsfs_revision.proofs.WholeLemmas.{fault_for, whole_for}
use Rattle.fsfs_digest.specs.Views.{bare}
use Rattle.fsfs_digest.proofs.BareLemmas.{bare_told, bare_fault, named_whole, sha1_fault}
use Rattle.fsfs_digest.proofs.text.sha1_of_rep.Goals as goal

pub returns-in_err-found-clause-bytes : goal.returns-in_err-found-clause-bytes
returns-in_err-found-clause-bytes g c = λ bytes e.
    let rep = c.args.rep.now in
    let told = bare_told (g.B.Book.told c.args.book.now).revs _ rep (Ok bytes) c.without_sha1.ensures e in
    let p = err_from_is_err_and c.from_residual.result c.from_residual.ensures.1 in
    rw (p.1, p.2) (bare_fault rep bytes _ (fault_for _ (bare rep) bytes _ c.without_sha1.ensures (c.in_err-found.ensures.bytes bytes told)))

pub returns-in_err-found-clause-refused : goal.returns-in_err-found-clause-refused
returns-in_err-found-clause-refused g c = λ why e.
    let told = bare_told (g.B.Book.told c.args.book.now).revs _ c.args.rep.now (Err why) c.without_sha1.ensures e in
    let p = err_from_is_err_and c.from_residual.result c.from_residual.ensures.1 in
    rw (p.1, p.2) (c.in_err-found.ensures.refused why told)

pub returns-in_err-agree-clause-bytes : goal.returns-in_err-agree-clause-bytes
returns-in_err-agree-clause-bytes g c = λ bytes e.
    let rep = c.args.rep.now in
    let same = c.without_sha1.ensures in
    let told = bare_told (g.B.Book.told c.args.book.now).revs _ rep (Ok bytes) same e in
    let read = c.in_ok-found.ensures.bytes bytes told in
    let found = read.1 ∙ ap (λ (r : Rep). sha1 (text_of r bytes)) same in
    let p = err_from_is_err_and c.from_residual-in_err-agree.result c.from_residual-in_err-agree.ensures.1 in
    rw (p.1, p.2) (sha1_fault rep bytes (whole_for _ (bare rep) bytes same read.0) _ (c.in_err-agree.ensures.text (text_of rep bytes) found))

pub returns-in_err-agree-clause-refused : goal.returns-in_err-agree-clause-refused
returns-in_err-agree-clause-refused g c = λ why e.
    absurd (c.in_ok-found.ensures.refused why (bare_told (g.B.Book.told c.args.book.now).revs _ c.args.rep.now (Err why) c.without_sha1.ensures e))

pub returns-clause-bytes : goal.returns-clause-bytes
returns-clause-bytes g c = λ bytes e.
    let rep = c.args.rep.now in
    let same = c.without_sha1.ensures in
    let told = bare_told (g.B.Book.told c.args.book.now).revs _ rep (Ok bytes) same e in
    let read = c.in_ok-found.ensures.bytes bytes told in
    let found = read.1 ∙ ap (λ (r : Rep). sha1 (text_of r bytes)) same in
    let whole = named_whole rep bytes (whole_for _ (bare rep) bytes same read.0) (c.in_ok-agree.ensures.text (text_of rep bytes) found) in
    (whole, found)

pub returns-clause-refused : goal.returns-clause-refused
returns-clause-refused g c = λ why e.
    absurd (c.in_ok-found.ensures.refused why (bare_told (g.B.Book.told c.args.book.now).revs _ c.args.rep.now (Err why) c.without_sha1.ensures e))
