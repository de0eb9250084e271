-- Of which tree the node-revisions at the paths of a draft are the draft.
use Rattle.std.specs.Prelude.{◌≡◌, ◌≢◌, ◌⊎◌, ◌++◌, ℕ, true, List, length, drop, Some, None}
use Rattle.fsfs_base.specs.Paths.{Path, covers}
use Rattle.fsfs_tree.specs.Nodes.{Node, TreeFunction}
use Rattle.fsfs_model.specs.declared.flat.mark.Mark.{Mark}
use Rattle.fsfs_model.specs.Flat.Marks.{effects}
use Rattle.fsfs_noderev.specs.declared.node_rev.CopySource.{CopySource}
use Rattle.fsfs_noderev.specs.declared.node_rev.NodeRev.{NodeRev}
use Rattle.fsfs_draft.specs.OwnSides.{NodesAt, HasPathsOf}
use Rattle.fsfs_draft.specs.NodeDrafts.{draft_root, IsOwn}

-- how what the transaction did not hold came to stand at the path, where its tree has m
pub data FreshAt (n : ℕ) (own : NodesAt) (p : Path) (m : Node) : Type 0 where
  -- it was made there
  MadeHere : (u : NodeRev) → own p ≡ Some u → IsOwn u → u.predecessor ≡ None → m.source ≡ None → FreshAt n own p m
  -- it came with a copy at r, the nearest
  CameWith : (r : Path) (c : NodeRev) (from : CopySource) → covers r p ≡ true → own r ≡ Some c → IsOwn c → c.copy_from ≡ Some from
      → ((q : Path) (u : NodeRev) → covers r q ≡ true → covers q p ≡ true → own q ≡ Some u → (draft_root n u).0 ≡ n → (draft_root n u).1 ≡ r)
      → ((u : NodeRev) → own p ≡ Some u → IsOwn u → u.predecessor ≢ None)
      → m.source ≡ Some (from.rev, from.path ++ drop (length r) p) → FreshAt n own p m

-- the draft is one of the transaction's tree
pub record DrawsTree (n : ℕ) (a t : TreeFunction) (marks : List Mark) (own : NodesAt) : Type 0 where
  pub paths : HasPathsOf t own
  pub kinds : (p : Path) (u : NodeRev) (m : Node) → own p ≡ Some u → t p ≡ Some m → m.kind ≡ u.kind
  pub fresh : (p : Path) (m : Node) → t p ≡ Some m → (a p ≡ None) ⊎ ((effects marks p).deleted ≡ true) → FreshAt n own p m
