-- A merge without a clash leaves a draft over the head.
use Rattle.std.specs.Prelude.{◌<◌, ℕ, List}
use Rattle.fsfs_base.specs.Paths.{Path}
use Rattle.fsfs_tree.specs.Nodes.{TreeFunction}
use Rattle.fsfs_model.specs.declared.flat.mark.Mark.{Mark}
use Rattle.fsfs_model.specs.Flat.Landing.{NoClash, land}
use Rattle.fsfs_revision.specs.Told.{RevisionBytes}
use Rattle.fsfs_merge.specs.declared.sight.Sight.{Sight}
use Rattle.fsfs_draft.specs.OwnSides.{NodesAt}
use Rattle.fsfs_merge.specs.MergeLaws.{IsMerge, landed_nodes}
use Rattle.fsfs_draft.specs.NodeDrafts.{IsDraft}
use Rattle.fsfs_draft.specs.Draws.{DrawsTree}

abbrev pub MergeKeepsDrafts : Type 0
MergeKeepsDrafts = (look : RevisionBytes) (top : ℕ) (tree : ℕ → TreeFunction) (b h : ℕ) (t : TreeFunction) (marks : List Mark) (base head own : NodesAt) (see : Path → Sight)
    → IsMerge look top tree b h t marks base head own see → b < h → NoClash b (tree b) (tree h) t marks → IsDraft look top b own → IsDraft look top h (landed_nodes see head own)

-- and the draft is one of the landed tree
abbrev pub MergeKeepsTrees : Type 0
MergeKeepsTrees = (look : RevisionBytes) (top : ℕ) (tree : ℕ → TreeFunction) (b h n k : ℕ) (t : TreeFunction) (marks : List Mark) (base head own : NodesAt) (see : Path → Sight)
    → IsMerge look top tree b h t marks base head own see → NoClash b (tree b) (tree h) t marks → IsDraft look top b own → DrawsTree n (tree b) t marks own
    → DrawsTree n (tree h) (land (tree b) (tree h) t marks k) marks (landed_nodes see head own)
