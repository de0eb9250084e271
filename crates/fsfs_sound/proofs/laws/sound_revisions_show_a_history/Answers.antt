use Rattle.fsfs_sound.proofs.Histories.{sound_history}
use Rattle.fsfs_sound.proofs.laws.sound_revisions_show_a_history.Goals as goal

pub returns : goal.returns
returns c = sound_history
