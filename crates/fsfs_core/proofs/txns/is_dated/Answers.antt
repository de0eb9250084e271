use Rattle.std.proofs.Common.{ap, ◌∙◌, Some}
use Rattle.fsfs_core.proofs.Calling.{dated_by}
use Rattle.fsfs_core.proofs.txns.is_dated.Goals as goal

pub returns-in-Some : goal.returns-in-Some
returns-in-Some c = dated_by c.args.properties.now c.deref.result.now c.read_date.result c.is_some.result
    (ap (λ t. Some t) c.deref.ensures.value ∙ c.in-Some.ensures) c.read_date.ensures.found c.read_date.ensures.only c.is_some.ensures
