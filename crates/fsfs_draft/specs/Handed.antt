-- What a draft hands over to a merge and to the bytes of a revision.
use Rattle.std.specs.Prelude.{◌≡◌, ◌≤◌, ◌<◌, ℕ, List}
use Rattle.fsfs_base.specs.Paths.{Path}
use Rattle.fsfs_tree.specs.Nodes.{TreeFunction}
use Rattle.fsfs_model.specs.declared.flat.mark.Mark.{Mark}
use Rattle.fsfs_base.specs.declared.fields.txn_name.TxnName.{TxnName}
use Rattle.fsfs_revision.specs.Told.{RevisionBytes}
use Rattle.fsfs_draft.specs.Own.{Own, draft_tree}
use Rattle.fsfs_draft.specs.Drafts.{Folder, IsDraft, bare, ShowTrees}
use Rattle.fsfs_draft.specs.OwnSides.{NodesAt, IsOwnSide}
use Rattle.fsfs_draft.specs.Met.{draft_nodes, AreNodes}
use Rattle.fsfs_draft.specs.Sides.{OwnFiles, DrawnOnce, AreMarksOf, OwnSources}
use Rattle.fsfs_draft.specs.Draws.{DrawsTree}
use Rattle.fsfs_draft.specs.NodeDrafts as nodewise

-- what is met in it, path by path, hangs together as the rules of ids will have it
abbrev pub DraftsHang : Type 0
DraftsHang = (look : RevisionBytes) (top base : ℕ) (trees : ℕ → TreeFunction) (nodes : ℕ → NodesAt) → ShowTrees look top trees → AreNodes look top nodes → base ≤ top
    → (txn : TxnName) (f : Folder) (own : Own) → IsDraft look top base txn f own → OwnFiles own → DrawnOnce own
    → nodewise.IsDraft look top base (draft_nodes nodes own (nodes base))

-- and what its marks say of the base is what is met in it
abbrev pub DraftsKeepSides : Type 0
DraftsKeepSides = (look : RevisionBytes) (top base : ℕ) (trees : ℕ → TreeFunction) (nodes : ℕ → NodesAt) → ShowTrees look top trees → AreNodes look top nodes → base ≤ top
    → (txn : TxnName) (f : Folder) (own : Own) (marks : List Mark) → IsDraft look top base txn f own → OwnFiles own → AreMarksOf (trees base) marks own
    → IsOwnSide (nodes base) marks (draft_nodes nodes own (nodes base))

-- and the other way
abbrev pub SidesAreMarks : Type 0
SidesAreMarks = (look : RevisionBytes) (top base : ℕ) (trees : ℕ → TreeFunction) (nodes : ℕ → NodesAt) → ShowTrees look top trees → AreNodes look top nodes → base ≤ top
    → (txn : TxnName) (f : Folder) (own : Own) (marks : List Mark) → IsDraft look top base txn f own → OwnFiles own → IsOwnSide (nodes base) marks (draft_nodes nodes own (nodes base))
    → AreMarksOf (trees base) marks own

-- and it is the draft of the tree that is shown
abbrev pub DraftsDraw : Type 0
DraftsDraw = (look : RevisionBytes) (top base : ℕ) (trees : ℕ → TreeFunction) (nodes : ℕ → NodesAt) → ShowTrees look top trees → AreNodes look top nodes → base ≤ top
    → (txn : TxnName) (f : Folder) (own : Own) (marks : List Mark) (t : TreeFunction) → IsDraft look top base txn f own → OwnFiles own → AreMarksOf (trees base) marks own → OwnSources trees (trees base) own
    → ((p : Path) → bare (t p) ≡ bare (draft_tree trees own (trees base) p))
    → (n : ℕ) → top < n → DrawsTree n (trees base) t marks (draft_nodes nodes own (nodes base))
