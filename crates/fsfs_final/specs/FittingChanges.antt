-- The changed paths of a new revision against its bytes.
use Rattle.std.specs.Prelude.{◌≡◌, ◌≢◌, ◌≤◌, ℕ, suc, List, Some}
use Rattle.fsfs_model.specs.declared.flat.mark.Mark.{Mark}
use Rattle.fsfs_base.specs.declared.action.Action.TheVariants.{Delete}
use Rattle.fsfs_tree.specs.declared.change_map.Change.{Change}
use Rattle.fsfs_base.specs.Paths.{Path}
use Rattle.fsfs_tree.specs.Nodes.{TreeFunction}
use Rattle.fsfs_model.specs.Flat.Folding.{fold}
use Rattle.fsfs_tree.specs.Histories.{AreRevisions}
use Rattle.fsfs_model.specs.Flat.Landing.{NoClash, land}
use Rattle.fsfs_model.specs.Flat.Transactions.{IsTransaction}
use Rattle.fsfs_revision.specs.Told.{RevisionBytes}
use Rattle.fsfs_noderev.specs.declared.node_rev.NodeRev.{NodeRev}
use Rattle.fsfs_revision.specs.Shows.Reading.{StandsAt}
use Rattle.fsfs_revision.specs.Shows.Shown.{Shows}

-- what is deleted is gone; what is added, replaced or modified stands there, and is of the change's kind
pub record ChangesFit (look : RevisionBytes) (r : ℕ) (marks : List Mark) : Type 0 where
  pub gone : (p : Path) (c : Change) → fold marks p ≡ Some c → c.action ≡ Delete → (v : NodeRev) → StandsAt look r p v → ⊥
  pub there : (p : Path) (c : Change) → fold marks p ≡ Some c → c.action ≢ Delete → (v : NodeRev) × StandsAt look r p v × (v.kind ≡ c.kind)

abbrev pub LandedChangesFit : Type 0
LandedChangesFit = (look : RevisionBytes) (top : ℕ) (tree : ℕ → TreeFunction) (b : ℕ) (t : TreeFunction) (marks : List Mark) → AreRevisions tree top → IsTransaction tree top b t marks → b ≤ top
    → NoClash b (tree b) (tree top) t marks → Shows look (suc top) (land (tree b) (tree top) t marks (suc top)) → ChangesFit look (suc top) marks
