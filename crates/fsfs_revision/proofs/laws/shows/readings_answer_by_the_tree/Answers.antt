use Rattle.fsfs_revision.proofs.ByTree.{by_tree}
use Rattle.fsfs_revision.proofs.laws.shows.readings_answer_by_the_tree.Goals as goal

pub returns : goal.returns
returns c = by_tree
