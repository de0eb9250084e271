use Rattle.fsfs_check.proofs.Openness.{sound_is_open}
use Rattle.fsfs_check.proofs.laws.sound_histories_are_open.Goals as goal

pub returns : goal.returns
returns c = sound_is_open
