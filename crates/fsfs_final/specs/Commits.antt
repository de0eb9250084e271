-- What is committed adds its revision to what the bytes show.
use Rattle.std.specs.Prelude.{◌<◌, ℕ, suc, nat_le, List, if◌then◌else◌}
use Rattle.fsfs_base.specs.Paths.{Path}
use Rattle.fsfs_tree.specs.Nodes.{TreeFunction}
use Rattle.fsfs_model.specs.declared.flat.mark.Mark.{Mark}
use Rattle.fsfs_model.specs.Flat.Landing.{NoClash, land}
use Rattle.fsfs_model.specs.Flat.Transactions.{IsTransaction}
use Rattle.fsfs_revision.specs.Told.{RevisionBytes}
use Rattle.fsfs_revision.specs.Ancestry.Trees.{ShowTrees}
use Rattle.fsfs_merge.specs.declared.sight.Sight.{Sight}
use Rattle.fsfs_draft.specs.OwnSides.{NodesAt, IsOwnSide, AreNodesOf}
use Rattle.fsfs_merge.specs.MergeLaws.{IsMerge, landed_nodes}
use Rattle.fsfs_draft.specs.NodeDrafts.{IsDraft}
use Rattle.fsfs_final.specs.Final.{IsWritten}
use Rattle.fsfs_draft.specs.Draws.{DrawsTree}
use Rattle.fsfs_final.specs.Shown.{ReadsContents}

-- the trees up to `top`, and one more
abbrev pub with_next : (ℕ → TreeFunction) → ℕ → TreeFunction → ℕ → TreeFunction
with_next tree top next r = if nat_le r top then tree r else next

pub record CommitsAddRevisions : Type 0 where
  -- of a transaction on the youngest revision
  pub plain : (look : RevisionBytes) (top : ℕ) (tree : ℕ → TreeFunction) (t : TreeFunction) (marks : List Mark) (base own : NodesAt)
      → ShowTrees look top tree → IsTransaction tree top top t marks → AreNodesOf look top base → IsOwnSide base marks own → IsDraft look top top own
      → DrawsTree (suc top) (tree top) t marks own → IsWritten look (suc top) own → ReadsContents look (suc top) (land (tree top) (tree top) t marks (suc top))
      → ShowTrees look (suc top) (with_next tree top (land (tree top) (tree top) t marks (suc top)))
  -- and of one that a merge takes there
  pub merged : (look : RevisionBytes) (top : ℕ) (tree : ℕ → TreeFunction) (b : ℕ) (t : TreeFunction) (marks : List Mark) (base head own : NodesAt) (see : Path → Sight)
      → IsMerge look top tree b top t marks base head own see → b < top → NoClash b (tree b) (tree top) t marks → IsDraft look top b own
      → DrawsTree (suc top) (tree b) t marks own → IsWritten look (suc top) (landed_nodes see head own) → ReadsContents look (suc top) (land (tree b) (tree top) t marks (suc top))
      → ShowTrees look (suc top) (with_next tree top (land (tree b) (tree top) t marks (suc top)))
