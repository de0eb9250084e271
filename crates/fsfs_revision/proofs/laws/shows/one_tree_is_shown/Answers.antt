use Rattle.fsfs_revision.proofs.OneTree.{one_tree}
use Rattle.fsfs_revision.proofs.laws.shows.one_tree_is_shown.Goals as goal

pub returns : goal.returns
returns c = one_tree
