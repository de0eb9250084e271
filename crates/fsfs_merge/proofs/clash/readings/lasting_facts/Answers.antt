use Rattle.std.proofs.lemmas.Result.{err_from_is_err_and}
use Rattle.fsfs_merge.proofs.ReadingLemmas.{facts_fail}
use Rattle.fsfs_merge.proofs.clash.readings.lasting_facts.Goals as goal

pub returns-in_err-found-clause-told : goal.returns-in_err-found-clause-told
returns-in_err-found-clause-told g c = λ look knows.
    let r = err_from_is_err_and c.from_residual.result c.from_residual.ensures.1 in
    rw (r.1, r.2) (facts_fail look c.args.id.now c.in_err-found.field-0.0 (c.in_err-found.ensures.told look knows))

pub returns-clause-told : goal.returns-clause-told
returns-clause-told g c = λ look knows. (c.in_ok-found.found.node, c.in_ok-found.ensures.told look knows, c.facts_of.ensures)
