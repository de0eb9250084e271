use Rattle.fsfs_revision.proofs.Earlier.{predecessors_earlier}
use Rattle.fsfs_revision.proofs.laws.ancestry.predecessors_are_earlier.Goals as goal

pub returns : goal.returns
returns c = predecessors_earlier
