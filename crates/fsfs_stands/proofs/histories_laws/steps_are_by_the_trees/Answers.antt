use Rattle.fsfs_stands.proofs.ByTrees.{steps_by_trees}
use Rattle.fsfs_stands.proofs.histories_laws.steps_are_by_the_trees.Goals as goal

pub returns : goal.returns
returns c = steps_by_trees
