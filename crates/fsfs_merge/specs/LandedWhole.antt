-- A merge takes a whole draft, and leaves one of the landing over the head.
use Rattle.std.specs.Prelude.{◌≡◌, ◌<◌, ℕ, List, ◌≤◌}
use Rattle.fsfs_base.specs.Paths.{Path}
use Rattle.fsfs_tree.specs.Nodes.{TreeFunction}
use Rattle.fsfs_model.specs.declared.flat.mark.Mark.{Mark}
use Rattle.fsfs_model.specs.Flat.Landing.{NoClash, land}
use Rattle.fsfs_model.specs.Flat.Transactions.{IsTransaction}
use Rattle.fsfs_base.specs.declared.fields.txn_name.TxnName.{TxnName}
use Rattle.fsfs_revision.specs.Told.{RevisionBytes}
use Rattle.fsfs_revision.specs.Shows.Reading.{DirEntry}
use Rattle.fsfs_revision.specs.Ancestry.Trees.{ShowTrees}
use Rattle.fsfs_draft.specs.Drafts.{Folder}
use Rattle.fsfs_draft.specs.OwnSides.{NodesAt}
use Rattle.fsfs_draft.specs.Met.{draft_nodes, AreNodes}
use Rattle.fsfs_draft.specs.Whole.{IsDraftOf}
use Rattle.fsfs_merge.specs.declared.sight.Sight.{Sight}
use Rattle.fsfs_merge.specs.MergeLaws.{IsSight, IsMerge}
use Rattle.fsfs_merge.specs.LandedOwn.{landed_own, AreLists, IsLandedFolder}

pub record MergesTakeAndLeave : Type 0 where
  -- the laws of the merge apply to it, where `see` is what the merge sees
  pub takes : (look : RevisionBytes) (top : ℕ) (tree : ℕ → TreeFunction) (b h : ℕ) (t : TreeFunction) (marks : List Mark) (nodes : ℕ → NodesAt) (see : Path → Sight) (txn : TxnName) (f : Folder)
      → ShowTrees look top tree → AreNodes look top nodes → IsTransaction tree top b t marks → b ≤ h → h ≤ top → (d : IsDraftOf look tree top b txn f t marks)
      → ((p : Path) → IsSight b (nodes b p) (nodes h p) (draft_nodes nodes d.shows.own (nodes b) p) (see p))
      → IsMerge look top tree b h t marks (nodes b) (nodes h) (draft_nodes nodes d.shows.own (nodes b)) see
  -- and it leaves one
  pub leaves : (look : RevisionBytes) (top : ℕ) (tree : ℕ → TreeFunction) (b h k : ℕ) (t : TreeFunction) (marks : List Mark) (nodes : ℕ → NodesAt) (see : Path → Sight) (txn : TxnName) (f after : Folder) (lists : Path → List DirEntry)
      → AreNodes look top nodes → (d : IsDraftOf look tree top b txn f t marks) → IsMerge look top tree b h t marks (nodes b) (nodes h) (draft_nodes nodes d.shows.own (nodes b)) see → b < h → NoClash b (tree b) (tree h) t marks
      → AreLists see (nodes h) (draft_nodes nodes d.shows.own (nodes b)) lists → IsLandedFolder f after (landed_own see (nodes h) lists d.shows.own) → after.items ≡ f.items
      → IsDraftOf look tree top h txn after (land (tree b) (tree h) t marks k) marks
