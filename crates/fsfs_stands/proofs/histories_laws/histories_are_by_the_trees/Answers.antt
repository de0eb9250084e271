use Rattle.fsfs_stands.proofs.TextByTrees.{histories_by_trees}
use Rattle.fsfs_stands.proofs.histories_laws.histories_are_by_the_trees.Goals as goal

pub returns : goal.returns
returns c = histories_by_trees
