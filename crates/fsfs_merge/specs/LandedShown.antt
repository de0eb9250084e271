-- What a merge leaves of a draft shows the landing.
use Rattle.std.specs.Prelude.{◌≡◌, ◌<◌, ℕ, List}
use Rattle.fsfs_base.specs.Paths.{Path}
use Rattle.fsfs_tree.specs.Nodes.{TreeFunction}
use Rattle.fsfs_model.specs.declared.flat.mark.Mark.{Mark}
use Rattle.fsfs_model.specs.Flat.Landing.{NoClash, land}
use Rattle.fsfs_base.specs.declared.fields.txn_name.TxnName.{TxnName}
use Rattle.fsfs_revision.specs.Told.{RevisionBytes}
use Rattle.fsfs_revision.specs.Shows.Reading.{DirEntry}
use Rattle.fsfs_draft.specs.Own.{Own, draft_tree}
use Rattle.fsfs_draft.specs.Drafts.{Folder, IsDraft, bare}
use Rattle.fsfs_draft.specs.OwnSides.{NodesAt}
use Rattle.fsfs_draft.specs.Met.{draft_nodes, AreNodes}
use Rattle.fsfs_draft.specs.Sides.{OwnFiles, DrawnOnce, AreMarksOf, OwnSources}
use Rattle.fsfs_merge.specs.declared.sight.Sight.{Sight}
use Rattle.fsfs_merge.specs.MergeLaws.{IsMerge}
use Rattle.fsfs_merge.specs.LandedOwn.{landed_own, AreLists, IsLandedFolder}

pub record LandedIsShown (look : RevisionBytes) (tree : ℕ → TreeFunction) (b h k : ℕ) (t : TreeFunction) (marks : List Mark) (after : Own) : Type 0 where
  pub each : (p : Path) → bare (land (tree b) (tree h) t marks k p) ≡ bare (draft_tree tree after (tree h) p)
  pub sources : OwnSources tree (tree h) after

abbrev pub LandingsAreShown : Type 0
LandingsAreShown = (look : RevisionBytes) (top : ℕ) (tree : ℕ → TreeFunction) (b h k : ℕ) (t : TreeFunction) (marks : List Mark) (nodes : ℕ → NodesAt) (see : Path → Sight) (txn : TxnName) (f after : Folder) (own : Own) (lists : Path → List DirEntry)
    → AreNodes look top nodes → IsMerge look top tree b h t marks (nodes b) (nodes h) (draft_nodes nodes own (nodes b)) see → b < h → NoClash b (tree b) (tree h) t marks
    → IsDraft look top b txn f own → OwnFiles own → DrawnOnce own → AreMarksOf (tree b) marks own → OwnSources tree (tree b) own
    → ((p : Path) → bare (t p) ≡ bare (draft_tree tree own (tree b) p))
    → AreLists see (nodes h) (draft_nodes nodes own (nodes b)) lists → IsLandedFolder f after (landed_own see (nodes h) lists own)
    → LandedIsShown look tree b h k t marks (landed_own see (nodes h) lists own)
