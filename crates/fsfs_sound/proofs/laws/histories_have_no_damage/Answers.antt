use Rattle.fsfs_sound.proofs.NoDamage.{no_damage}
use Rattle.fsfs_sound.proofs.laws.histories_have_no_damage.Goals as goal

pub returns : goal.returns
returns c = no_damage
