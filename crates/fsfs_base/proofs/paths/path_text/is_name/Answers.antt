use Rattle.fsfs_base.proofs.PathTextLemmas.{name_is_taken, name_is_refused}
use Rattle.fsfs_base.proofs.paths.path_text.is_name.Goals as goal

pub returns-in-None : goal.returns-in-None
returns-in-None c = name_is_taken c.args.name.now c.has_slash.result c.has_slash.ensures c.in-None.ensures

pub returns-in-Some : goal.returns-in-Some
returns-in-Some c = (λ t. absurd cc, λ w. absurd (name_is_refused c.args.name.now _ c.in-Some.ensures w))
