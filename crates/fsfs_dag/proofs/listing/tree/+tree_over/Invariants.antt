use Rattle.std.proofs.Common.{length}
use Rattle.fsfs_dag.proofs.listing.tree.+tree_over.Given as goal

abbrev pub decreases-tree_over : goal.decreases-tree_over
decreases-tree_over l = length l.entries.now
