-- The bytes of a new revision show the landing of the transaction that it was made of.
use Rattle.std.specs.Prelude.{◌≡◌, ℕ, suc, List, Some, Ok}
use Rattle.fsfs_base.specs.Paths.{Path}
use Rattle.fsfs_tree.specs.Nodes.{Node, TreeFunction}
use Rattle.fsfs_model.specs.declared.flat.mark.Mark.{Mark}
use Rattle.fsfs_model.specs.Flat.Landing.{land}
use Rattle.fsfs_model.specs.Flat.Transactions.{IsTransaction}
use Rattle.fsfs_revision.specs.Told.{RevisionBytes}
use Rattle.fsfs_noderev.specs.declared.node_rev.NodeRev.{NodeRev}
use Rattle.fsfs_revision.specs.Shows.Reading.{PropsOf, StandsAt}
use Rattle.fsfs_revision.specs.Shows.Shown.{IsTextOf, Shows}
use Rattle.fsfs_revision.specs.Ancestry.Trees.{ShowTrees}
use Rattle.fsfs_draft.specs.OwnSides.{NodesAt, IsOwnSide, AreNodesOf}
use Rattle.fsfs_draft.specs.NodeDrafts.{IsDraft}
use Rattle.fsfs_draft.specs.Draws.{DrawsTree}
use Rattle.fsfs_final.specs.Final.{IsWritten}

-- texts and properties read as the landing's
pub record ReadsContents (look : RevisionBytes) (n : ℕ) (landed : TreeFunction) : Type 0 where
  pub text : (p : Path) (v : NodeRev) (y : Node) → StandsAt look n p v → landed p ≡ Some y → IsTextOf look v.kind v y.text
  pub props : (p : Path) (v : NodeRev) (y : Node) → StandsAt look n p v → landed p ≡ Some y → PropsOf look v (Ok y.properties)

abbrev pub WrittenShowsLanding : Type 0
WrittenShowsLanding = (look : RevisionBytes) (top : ℕ) (tree : ℕ → TreeFunction) (t : TreeFunction) (marks : List Mark) (base own : NodesAt)
    → ShowTrees look top tree → IsTransaction tree top top t marks
    → AreNodesOf look top base → IsOwnSide base marks own → IsDraft look top top own → DrawsTree (suc top) (tree top) t marks own
    → IsWritten look (suc top) own → ReadsContents look (suc top) (land (tree top) (tree top) t marks (suc top))
    → Shows look (suc top) (land (tree top) (tree top) t marks (suc top))
