-- What the one pass of a repository knows, as a fact of the state of its store.
use Rattle.fsfs_turn.specs.Alone.{KnowsAlone}
use Rattle.fsfs_turn.specs.Telling.{OwnedState}
use Rattle.fsfs_turn.specs.Views.{View}

-- what is known is a fact of this state alone
abbrev pub KnowsIn : OwnedState → View → Type 0
KnowsIn s v = KnowsAlone s.layout s.floor s.young s.stuck s.trace v
