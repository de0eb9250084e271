use Rattle.fsfs_merge.proofs.LandedTree.{merge_keeps_trees}
use Rattle.fsfs_merge.proofs.landed_laws.merges_keep_trees.Goals as goal

pub returns : goal.returns
returns c = merge_keeps_trees
