-- What a tree is, and that the numbers of its nodes are in order. (This project's profile, after the created and changed revisions
-- of svn_fs.h.)
use Rattle.std.specs.Prelude.{◌≡◌, ◌≤◌, true, [], Some, is_some}
use Rattle.fsfs_base.specs.declared.kind.Kind.TheVariants.{Dir}
use Rattle.fsfs_base.specs.Paths.{Path, is_above}
use Rattle.fsfs_tree.specs.Nodes.{Node, TreeFunction}

-- the numbers of a node are in order
pub record IsOrdered (n : Node) : Type 0 where
  pub added : n.added ≤ n.props_changed
  pub props_changed : n.props_changed ≤ n.last_changed

abbrev pub AreOrdered : TreeFunction → Type 0
AreOrdered t = (p : Path) (n : Node) → t p ≡ Some n → IsOrdered n

-- `/` is a directory, and so is each path above one that stands in the tree
pub record IsTree (t : TreeFunction) : Type 0 where
  pub root : (n : Node) × (t [] ≡ Some n) × (n.kind ≡ Dir)
  pub above : (q p : Path) → is_above q p ≡ true → is_some (t p) ≡ true → (n : Node) × (t q ≡ Some n) × (n.kind ≡ Dir)
