use Rattle.std.proofs.lemmas.Result.{err_from_is_err_and}
use Rattle.fsfs_fetch.proofs.floors.refresh.Goals as goal

pub returns-in_err-floor-clause-about : goal.returns-in_err-floor-clause-about
returns-in_err-floor-clause-about g c = λ rev offset.
    let r = err_from_is_err_and c.from_residual.result c.from_residual.ensures.1 in
    rw (r.1, r.2) (c.in_err-floor.ensures.about rev offset)
