-- What a commit wants, and what comes of it: the whole chain from the bytes of a new revision to the history.
use Rattle.std.specs.Prelude.{◌≡◌, ◌<◌, ◌≤◌, ℕ, suc, List, []}
use Rattle.fsfs_base.specs.Paths.{Path}
use Rattle.fsfs_tree.specs.Nodes.{TreeFunction}
use Rattle.fsfs_model.specs.declared.flat.mark.Mark.{Mark}
use Rattle.fsfs_model.specs.Flat.Landing.{NoClash, land}
use Rattle.fsfs_model.specs.Flat.Transactions.{IsTransaction}
use Rattle.fsfs_revision.specs.Told.{RevisionBytes}
use Rattle.fsfs_noderev.specs.declared.node_rev.NodeRev.{NodeRev}
use Rattle.fsfs_revision.specs.Shows.Reading.{StandsAt}
use Rattle.fsfs_revision.specs.Ancestry.Bounded.{AreSameUpTo}
use Rattle.fsfs_revision.specs.Ancestry.Trees.{ShowTrees}
use Rattle.fsfs_merge.specs.declared.sight.Sight.{Sight}
use Rattle.fsfs_draft.specs.OwnSides.{NodesAt, IsOwnSide, AreNodesOf}
use Rattle.fsfs_merge.specs.MergeLaws.{IsMerge, landed_nodes}
use Rattle.fsfs_draft.specs.NodeDrafts.{IsDraft}
use Rattle.fsfs_final.specs.Directories.{HasAllBelow}
use Rattle.fsfs_final.specs.Begun.{IsFirstRoot, begun}
use Rattle.fsfs_final.specs.Bytes.{HoldsDraft}
use Rattle.fsfs_draft.specs.Draws.{DrawsTree}
use Rattle.fsfs_final.specs.Contents.{LastingContents, OwnContents}
use Rattle.fsfs_final.specs.FittingChanges.{ChangesFit}
use Rattle.fsfs_final.specs.Commits.{with_next}

-- a transaction over revision b, and its draft: all that edits keep, and merges
pub record HasDraft (look : RevisionBytes) (top n b : ℕ) (tree : ℕ → TreeFunction) (t : TreeFunction) (marks : List Mark) (base own : NodesAt) : Type 0 where
  pub transaction : IsTransaction tree top b t marks
  pub base_nodes : AreNodesOf look b base
  pub side : IsOwnSide base marks own
  pub draft : IsDraft look top b own
  pub draws : DrawsTree n (tree b) t marks own
  pub contents : LastingContents look t own
  pub below : HasAllBelow look own

pub record Committing : Type 0 where
  -- a transaction that has just begun has one
  pub begins : (look : RevisionBytes) (top : ℕ) (tree : ℕ → TreeFunction) (b n : ℕ) (base : NodesAt) (x v : NodeRev)
      → ShowTrees look top tree → b ≤ top → AreNodesOf look b base → StandsAt look b [] x → IsFirstRoot top x v → HasDraft look top n b tree (tree b) [] base (begun base v)
  -- it stays while others commit: later revisions come, and those before stay as they are
  pub stays : (look other : RevisionBytes) (top more n b : ℕ) (tree next : ℕ → TreeFunction) (t : TreeFunction) (marks : List Mark) (base own : NodesAt)
      → AreSameUpTo top look other → ((r : ℕ) → r ≤ top → next r ≡ tree r) → top ≤ more → HasDraft look top n b tree t marks base own → HasDraft other more n b next t marks base own
  -- a merge without a clash leaves one over the head
  pub merged : (look : RevisionBytes) (top : ℕ) (tree : ℕ → TreeFunction) (b h n k : ℕ) (t : TreeFunction) (marks : List Mark) (base head own : NodesAt) (see : Path → Sight)
      → IsMerge look top tree b h t marks base head own see → b < h → NoClash b (tree b) (tree h) t marks → HasDraft look top n b tree t marks base own
      → HasDraft look top n h tree (land (tree b) (tree h) t marks k) marks head (landed_nodes see head own)
  -- over the youngest revision, bytes that hold it add a revision
  pub adds : (look : RevisionBytes) (top : ℕ) (tree : ℕ → TreeFunction) (t : TreeFunction) (marks : List Mark) (base own : NodesAt) (bytes : List ℕ) (done : Path → NodeRev) (off : Path → ℕ)
      → ShowTrees look top tree → HasDraft look top (suc top) top tree t marks base own → HoldsDraft look (suc top) bytes own done off → OwnContents look (suc top) t own
      → ShowTrees look (suc top) (with_next tree top (land (tree top) (tree top) t marks (suc top))) × ChangesFit look (suc top) marks
