use Rattle.fsfs_sound.proofs.Ahead.{not_ahead, behind_is_earlier}
use Rattle.fsfs_sound.proofs.laws.parts_are_not_ahead.Goals as goal

pub returns-clause-parts : goal.returns-clause-parts
returns-clause-parts c = not_ahead

pub returns-clause-behind : goal.returns-clause-behind
returns-clause-behind c = behind_is_earlier
