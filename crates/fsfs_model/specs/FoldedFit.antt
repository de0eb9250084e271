-- What the folded changes of a transaction tell of its tree, and of that of the revision that it becomes.
use Rattle.std.specs.Prelude.{◌≡◌, ◌≢◌, ℕ, List, Some, None}
use Rattle.fsfs_model.specs.declared.flat.mark.Mark.{Mark}
use Rattle.fsfs_base.specs.declared.action.Action.TheVariants.{Delete}
use Rattle.fsfs_tree.specs.declared.change_map.Change.{Change}
use Rattle.fsfs_base.specs.Paths.{Path}
use Rattle.fsfs_tree.specs.Nodes.{Node}
use Rattle.fsfs_tree.specs.Nodes.{TreeFunction}
use Rattle.fsfs_model.specs.Flat.Folding.{fold}
use Rattle.fsfs_tree.specs.Histories.{AreRevisions}
use Rattle.fsfs_model.specs.Flat.Transactions.{IsTransaction}

-- what is deleted is gone; what is added, replaced or modified is there, and of the change's kind
pub record FoldFits (t : TreeFunction) (marks : List Mark) : Type 0 where
  pub gone : (p : Path) (c : Change) → fold marks p ≡ Some c → c.action ≡ Delete → t p ≡ None
  pub there : (p : Path) (c : Change) → fold marks p ≡ Some c → c.action ≢ Delete → (n : Node) × (t p ≡ Some n) × (n.kind ≡ c.kind)

-- t may be what a landing has made
abbrev pub FoldsFit : Type 0
FoldsFit = (tree : ℕ → TreeFunction) (last b : ℕ) (t : TreeFunction) (marks : List Mark) → AreRevisions tree last → IsTransaction tree last b t marks → FoldFits t marks
