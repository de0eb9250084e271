use Rattle.fsfs_stands.proofs.FileByTree.{files_by_tree}
use Rattle.fsfs_stands.proofs.TreeByTree.{trees_by_tree}
use Rattle.fsfs_stands.proofs.printed_laws.texts_are_by_the_tree.Goals as goal

pub returns-clause-trees : goal.returns-clause-trees
returns-clause-trees c = trees_by_tree

pub returns-clause-files : goal.returns-clause-files
returns-clause-files c = files_by_tree
