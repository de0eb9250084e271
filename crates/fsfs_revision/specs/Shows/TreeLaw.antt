-- What holds of every tree that bytes show.
use Rattle.std.specs.Prelude.{◌≡◌, ◌≤◌, ℕ, Some}
use Rattle.fsfs_base.specs.Paths.{Path}
use Rattle.fsfs_tree.specs.Nodes.{Node, TreeFunction}
use Rattle.fsfs_tree.specs.Trees.{IsTree, AreOrdered}

-- `/` is a directory, and so is all that stands above something; the numbers of each node are in order, and none is above the
-- revision's
pub record IsSound (r : ℕ) (tree : TreeFunction) : Type 0 where
  pub is_tree : IsTree tree
  pub ordered : AreOrdered tree
  pub at_most : (p : Path) (n : Node) → tree p ≡ Some n → n.last_changed ≤ r
