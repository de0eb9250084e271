use Rattle.fsfs_model.proofs.Legal.{landing_leaves_a_tree}
use Rattle.fsfs_model.proofs.laws.landing_leaves_a_tree.Goals as goal

pub returns : goal.returns
returns c = landing_leaves_a_tree
