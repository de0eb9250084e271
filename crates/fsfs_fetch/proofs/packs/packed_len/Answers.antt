use Rattle.std.proofs.lemmas.Result.{err_from_is_err_and}
use Rattle.fsfs_fetch.proofs.PackLemmas.{len_told, len_err}
use Rattle.fsfs_fetch.proofs.packs.packed_len.Goals as goal

pub returns-in_err-section-clause-told : goal.returns-in_err-section-clause-told
returns-in_err-section-clause-told g c = λ m p.
    let v = g.R.Reads.view c.args.reads.now in
    let r = err_from_is_err_and c.from_residual.result c.from_residual.ensures.1 in
    rw (r.1, r.2) (len_err v.layout m c.args.rev c.in_err-section.field-0.0 (c.in_err-section.ensures.told m p))

pub returns-in_err-section-clause-about : goal.returns-in_err-section-clause-about
returns-in_err-section-clause-about g c =
    let r = err_from_is_err_and c.from_residual.result c.from_residual.ensures.1 in
    rw (r.1, r.2) (c.in_err-section.ensures.about 0)

pub returns-clause-told : goal.returns-clause-told
returns-clause-told g c = λ m p. len_told _ m c.args.rev c.in_ok-section.section (c.in_ok-section.ensures.told m p)
