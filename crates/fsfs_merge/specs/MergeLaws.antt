-- The merge by ids, of node-revisions: it stops at the first clash, and what it leaves is a draft for the landing.
use Rattle.std.specs.Prelude.{◌≡◌, ◌≤◌, ◌↔◌, ◌+◌, ◌-◌, ◌^◌, ℕ, min, Bool, true, false, ◌&&◌, List, Option, Some, None, is_some, if◌then◌else◌}
use Rattle.fsfs_base.specs.Paths.{Path}
use Rattle.fsfs_tree.specs.Nodes.{TreeFunction}
use Rattle.fsfs_base.specs.declared.kind.Kind.TheVariants.{Dir}
use Rattle.fsfs_model.specs.declared.flat.mark.Mark.{Mark}
use Rattle.fsfs_model.specs.Flat.Landing.{reached, NoClash, is_clash, land}
use Rattle.fsfs_model.specs.Flat.Transactions.{IsTransaction}
use Rattle.fsfs_revision.specs.Told.{RevisionBytes}
use Rattle.fsfs_noderev.specs.declared.rep.Contents.TheVariants as contents
use Rattle.fsfs_noderev.specs.declared.node_rev.NodeRev.{NodeRev}
use Rattle.fsfs_revision.specs.Shows.Chains.{copy_root_of}
use Rattle.fsfs_revision.specs.Ancestry.Trees.{ShowTrees}
use Rattle.fsfs_merge.specs.Walks.{Sight, merges, down, clashes_by_ids, is_own, merged}
use Rattle.fsfs_merge.specs.Laws.{AreSame}
use Rattle.fsfs_draft.specs.OwnSides.{NodesAt, is_own_copy, IsOwnSide, AreNodesOf, HasPathsOf}

-- all three are directories of one node; the head's copy root is of a revision not above the base, and the transaction's is not of the transaction
pub record BothGoOn (b : ℕ) (x y v : NodeRev) : Type 0 where
  pub base_dir : x.kind ≡ Dir
  pub head_dir : y.kind ≡ Dir
  pub own_dir : v.kind ≡ Dir
  pub head_node : x.id.node ≡ y.id.node
  pub own_node : x.id.node ≡ v.id.node
  pub head_root : (copy_root_of y).0 ≤ b
  pub own_root : is_own_copy v ≡ false

-- what a merge sees of an entry: the tests that it makes
pub record IsSight (b : ℕ) (x y v : Option NodeRev) (s : Sight) : Type 0 where
  pub in_base : s.in_base ≡ is_some x
  pub in_head : s.in_head ≡ is_some y
  pub in_own : s.in_own ≡ is_some v
  pub head_same : (a : NodeRev) → x ≡ Some a → (s.head_same ≡ true) ↔ ((c : NodeRev) × (y ≡ Some c) × (a.id ≡ c.id))
  pub own_same : (a : NodeRev) → x ≡ Some a → (s.own_same ≡ true) ↔ ((c : NodeRev) × (v ≡ Some c) × (a.id ≡ c.id))
  pub goes_on : (a : NodeRev) → x ≡ Some a → (s.goes_on ≡ true) ↔ ((c e : NodeRev) × (y ≡ Some c) × (v ≡ Some e) × BothGoOn b a c e)
  pub same_props : (a c e : NodeRev) → x ≡ Some a → y ≡ Some c → v ≡ Some e → (s.same_props ≡ true) ↔ ((a.props ≡ c.props) × (a.props ≡ e.props))

-- the walk goes through the path
abbrev pub is_merged : (Path → Sight) → Path → Bool
is_merged see p = reached (down see) p && merges (see p)

-- a merged directory goes on from the head's, and its entries stand in a file of its own
abbrev pub relinked : Bool → Option NodeRev → Option NodeRev → Option NodeRev
relinked false y v = v
relinked true y None = None
relinked true None (Some v) = Some v
relinked true (Some y) (Some v) = Some (record v { predecessor = Some y.id; count = min (y.count + 1) (2 ^ 64 - 1); text = Some contents.Own; is_fresh_txn_root = false })

-- what stands at each path of the draft after a merge without a clash
abbrev pub landed_nodes : (Path → Sight) → NodesAt → NodesAt → NodesAt
landed_nodes see head own p = if is_own see p then relinked (is_merged see p) (head p) (own p) else head p

-- what a merge has before it: a transaction over a history that the bytes show, and its draft
pub record IsMerge (look : RevisionBytes) (top : ℕ) (tree : ℕ → TreeFunction) (b h : ℕ) (t : TreeFunction) (marks : List Mark) (base head own : NodesAt) (see : Path → Sight) : Type 0 where
  pub shows : ShowTrees look top tree
  pub transaction : IsTransaction tree top b t marks
  pub order : b ≤ h
  pub within : h ≤ top
  pub base_nodes : AreNodesOf look b base
  pub head_nodes : AreNodesOf look h head
  pub paths : HasPathsOf t own
  pub side : IsOwnSide base marks own
  pub sights : (p : Path) → IsSight b (base p) (head p) (own p) (see p)

pub record MergeByIds : Type 0 where
  -- the walk stops exactly where the two clash
  pub clash : (look : RevisionBytes) (top : ℕ) (tree : ℕ → TreeFunction) (b h : ℕ) (t : TreeFunction) (marks : List Mark) (base head own : NodesAt) (see : Path → Sight)
      → IsMerge look top tree b h t marks base head own see → (p : Path) → clashes_by_ids see p ≡ is_clash b (tree b) (tree h) t marks p
  -- and where it does not stop it leaves a draft for the landing, over the head
  pub landing : (look : RevisionBytes) (top : ℕ) (tree : ℕ → TreeFunction) (b h n : ℕ) (t : TreeFunction) (marks : List Mark) (base head own : NodesAt) (see : Path → Sight)
      → IsMerge look top tree b h t marks base head own see → NoClash b (tree b) (tree h) t marks
      → IsOwnSide head marks (landed_nodes see head own)
      × HasPathsOf (land (tree b) (tree h) t marks n) (landed_nodes see head own)
      × ((p : Path) → AreSame (merged see (tree h) t p) (land (tree b) (tree h) t marks n p))
