-- What has no next tree has no next revision.
use Rattle.std.proofs.lemmas.Option.{MatchOption-at_none}
use Rattle.fsfs_core.proofs.txns.next_of.Goals as goal

pub returns-in-None : goal.returns-in-None
returns-in-None c = λ p next d n. MatchOption-at_none _ _ c.in-None.is c.in_ok-next_tree.ensures p c.args.properties.now next n
