use Rattle.fsfs_stands.proofs.Creations.{creations_hold_new}
use Rattle.fsfs_stands.proofs.laws.creations_hold_new.Goals as goal

pub returns : goal.returns
returns c = creations_hold_new
