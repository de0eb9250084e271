-- A transaction's draft, with all that it keeps: what edits keep, what a merge and a commit take.
use Rattle.std.specs.Prelude.{◌≡◌, ◌≤◌, ◌<◌, ℕ, List, []}
use Rattle.fsfs_tree.specs.Nodes.{TreeFunction}
use Rattle.fsfs_model.specs.declared.flat.mark.Mark.{Mark}
use Rattle.fsfs_base.specs.declared.fields.txn_name.TxnName.{TxnName}
use Rattle.fsfs_revision.specs.Told.{RevisionBytes}
use Rattle.fsfs_noderev.specs.declared.node_rev.NodeRev.{NodeRev}
use Rattle.fsfs_draft.specs.Own.{OwnNode, Own}
use Rattle.fsfs_draft.specs.Drafts.{Folder, ShowsDraft, ShowTrees}
use Rattle.fsfs_draft.specs.OwnSides.{NodesAt, IsOwnSide}
use Rattle.fsfs_draft.specs.Met.{draft_nodes, AreNodes}
use Rattle.fsfs_draft.specs.Sides.{OwnFiles, DrawnOnce, AreMarksOf, OwnSources}
use Rattle.fsfs_draft.specs.Draws.{DrawsTree}
use Rattle.fsfs_draft.specs.NodeDrafts as nodewise
use Rattle.fsfs_draft.specs.Beginning.{IsBegun}

-- the folder shows this tree and these marks over the base, and the four clauses hold
pub record IsDraftOf (look : RevisionBytes) (trees : ℕ → TreeFunction) (top base : ℕ) (txn : TxnName) (f : Folder) (tree : TreeFunction) (marks : List Mark) : Type 0 where
  pub shows : ShowsDraft look trees top base txn f tree marks
  pub files : OwnFiles shows.own
  pub once : DrawnOnce shows.own
  pub says : AreMarksOf (trees base) marks shows.own
  pub sources : OwnSources trees (trees base) shows.own

-- what a merge and a commit take
pub record IsHanded (look : RevisionBytes) (trees : ℕ → TreeFunction) (top base : ℕ) (nodes : ℕ → NodesAt) (own : Own) (tree : TreeFunction) (marks : List Mark) : Type 0 where
  pub hangs : nodewise.IsDraft look top base (draft_nodes nodes own (nodes base))
  pub side : IsOwnSide (nodes base) marks (draft_nodes nodes own (nodes base))
  pub draws : (n : ℕ) → top < n → DrawsTree n (trees base) tree marks (draft_nodes nodes own (nodes base))

pub record DraftsAreHanded : Type 0 where
  pub begun : (look : RevisionBytes) (top base : ℕ) (trees : ℕ → TreeFunction) → ShowTrees look top trees → base ≤ top → (txn : TxnName) (f : Folder) (x : NodeRev) (v : OwnNode) → IsBegun look base trees txn f x v → f.items ≡ []
      → IsDraftOf look trees top base txn f (trees base) []
  pub handed : (look : RevisionBytes) (trees : ℕ → TreeFunction) (top base : ℕ) (nodes : ℕ → NodesAt) (txn : TxnName) (f : Folder) (tree : TreeFunction) (marks : List Mark) → ShowTrees look top trees → AreNodes look top nodes → base ≤ top
      → (d : IsDraftOf look trees top base txn f tree marks) → IsHanded look trees top base nodes d.shows.own tree marks
