use Rattle.fsfs_revision.proofs.TreeLaw.{sound}
use Rattle.fsfs_revision.proofs.laws.shows.shown_trees_are_sound.Goals as goal

pub returns : goal.returns
returns c = sound
