-- What the node-revisions of a transaction say of its base: the edit rules, as they stand in a draft, path by path.
--
-- `base` gives what stands at each path of the base, and `own` what stands at each path of the draft: a node-revision of the
-- transaction, or one of a revision that it did not touch. (The libsvn_fs_fs structure file, "Transaction layout"; which copy root a
-- successor gets is this project's profile.)
use Rattle.std.specs.Prelude.{◌≡◌, ◌≢◌, ◌⊎◌, ◌↔◌, ℕ, Bool, true, false, List, Option, Some, None, is_some, if◌then◌else◌}
use Rattle.fsfs_base.specs.Paths.{Path, is_above}
use Rattle.fsfs_tree.specs.Nodes.{TreeFunction}
use Rattle.fsfs_revision.specs.Told.{RevisionBytes}
use Rattle.fsfs_revision.specs.Shows.Reading.{StandsAt}
use Rattle.fsfs_model.specs.declared.flat.mark.Mark.{Mark}
use Rattle.fsfs_model.specs.Flat.Marks.{effects}
use Rattle.fsfs_noderev.specs.declared.node_id.Place.{Place}
use Rattle.fsfs_noderev.specs.declared.node_id.Place.TheVariants as places
use Rattle.fsfs_noderev.specs.declared.rep.Contents.TheVariants as contents
use Rattle.fsfs_noderev.specs.declared.node_rev.CopyRoot.{CopyRoot}
use Rattle.fsfs_noderev.specs.declared.node_rev.NodeRev.{NodeRev}

abbrev pub NodesAt : Type 0
NodesAt = Path → Option NodeRev

-- of the transaction, and not of a revision
abbrev pub in_txn : Place → Bool
in_txn (places.At rev offset) = false
in_txn (places.In txn) = true

-- a copy root that is not written is itself
abbrev pub has_own_root : Bool → Option CopyRoot → Bool
has_own_root mine None = mine
has_own_root mine (Some root) = if is_some root.rev then false else true

-- its copy root is of the transaction
abbrev pub is_own_copy : NodeRev → Bool
is_own_copy v = has_own_root (in_txn v.id.place) v.copy_root

-- v goes on from x in the transaction
pub record IsSuccessor (x v : NodeRev) (new_props : Bool) : Type 0 where
  pub own : in_txn v.id.place ≡ true
  pub node : v.id.node ≡ x.id.node
  pub kind : v.kind ≡ x.kind
  pub predecessor : v.predecessor ≡ Some x.id
  pub no_copy : v.copy_from ≡ None
  pub root : is_own_copy v ≡ false
  -- properties that were set stand in the transaction's own file; others are the base's
  pub props : v.props ≡ (if new_props then Some contents.Own else x.props)

-- v was made or copied in the transaction where x stood
pub record IsAnother (x v : NodeRev) : Type 0 where
  pub own : in_txn v.id.place ≡ true
  pub other : (v.id.node ≢ x.id.node) ⊎ (is_own_copy v ≡ true)

pub record IsOwnSide (base : NodesAt) (marks : List Mark) (own : NodesAt) : Type 0 where
  -- what the transaction held and did not touch is the base's node-revision
  pub untouched : (p : Path) (x : NodeRev) → base p ≡ Some x → (effects marks p).deleted ≡ false → (effects marks p).touched ≡ false → own p ≡ Some x
  -- what it held and touched goes on from the base's
  pub touched : (p : Path) (x : NodeRev) → base p ≡ Some x → (effects marks p).deleted ≡ false → (effects marks p).touched ≡ true
      → (v : NodeRev) × (own p ≡ Some v) × IsSuccessor x v (effects marks p).props_changed
  -- what stands where it took the base's away is another
  pub another : (p : Path) (x v : NodeRev) → base p ≡ Some x → (effects marks p).deleted ≡ true → ((q : Path) → is_above q p ≡ true → (effects marks q).deleted ≡ false)
      → own p ≡ Some v → IsAnother x v

-- what stands at each path of a revision
pub record AreNodesOf (look : RevisionBytes) (r : ℕ) (nodes : NodesAt) : Type 0 where
  pub each : (p : Path) (v : NodeRev) → nodes p ≡ Some v ↔ StandsAt look r p v

-- the draft has the paths of the tree, with their kinds
pub record HasPathsOf (t : TreeFunction) (own : NodesAt) : Type 0 where
  pub there : (p : Path) → is_some (own p) ≡ is_some (t p)
