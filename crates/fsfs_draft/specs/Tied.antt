-- Own node-revisions, and what is met on the way down: what ties the one to the other.
use Rattle.std.specs.Prelude.{◌≡◌, ◌≤◌, ◌++◌, ℕ, List, [], ◌∷◌, Option, Some, None, Ok, false}
use Rattle.fsfs_base.specs.Paths.{PathName, Path}
use Rattle.fsfs_base.specs.declared.fields.txn_name.TxnName.{TxnName}
use Rattle.fsfs_revision.specs.Told.{RevisionBytes}
use Rattle.fsfs_noderev.specs.declared.node_id.Place.TheVariants as places
use Rattle.fsfs_noderev.specs.Ids.{PartValue, part_value}
use Rattle.fsfs_noderev.specs.declared.node_rev.NodeRev.{NodeRev}
use Rattle.fsfs_tree.specs.Nodes.{TreeFunction}
use Rattle.fsfs_base.specs.declared.kind.Kind.TheVariants.{Dir}
use Rattle.fsfs_revision.specs.Shows.Reading.{DirEntry, named, ChildOf}
use Rattle.fsfs_revision.specs.Shows.Chains.{IsPred}
use Rattle.fsfs_draft.specs.Own.{OwnNode, Own}
use Rattle.fsfs_draft.specs.Rules.{Keeps}
use Rattle.fsfs_draft.specs.Drafts.{Kept, Folder, kept_of, HasContent, IsBelow, IsDraft, ShowTrees}
use Rattle.fsfs_draft.specs.OwnSides.{NodesAt, in_txn}
use Rattle.fsfs_draft.specs.Met.{draft_nodes, AreNodes}
use Rattle.fsfs_draft.specs.NodeDrafts.{IsOwn}
use Rattle.fsfs_draft.specs.NodeDrafts as nodewise

-- the entry names what is met there
abbrev pub IsListed : Option DirEntry → Option NodeRev → Type 0
IsListed None None = Unit {0}
IsListed None (Some u) = ⊥
IsListed (Some e) None = ⊥
IsListed (Some e) (Some u) = (e.id ≡ u.id) × (e.kind ≡ u.kind)

pub record IsTied (look : RevisionBytes) (met : NodesAt) (own : Own) : Type 0 where
  -- the own ones are those that are the transaction's
  pub mine : (p : Path) (v : OwnNode) → own p ≡ Some v → met p ≡ Some v.node
  pub all : (p : Path) (u : NodeRev) → met p ≡ Some u → IsOwn u → (v : OwnNode) × (own p ≡ Some v) × (v.node ≡ u)
  -- a `children` file lists what is met in the directory; without one nothing in it is the transaction's
  pub listed : (p : Path) (v : OwnNode) (entries : List DirEntry) (name : PathName) → own p ≡ Some v → v.entries ≡ Some entries → IsListed (named name entries) (met (p ++ name ∷ []))
  pub unlisted : (p : Path) (v : OwnNode) (name : PathName) → own p ≡ Some v → v.entries ≡ None → own (p ++ name ∷ []) ≡ None
  -- what it has no file for is its predecessor's
  pub keeps : (p : Path) (v : OwnNode) (u : NodeRev) → own p ≡ Some v → IsPred look v.node u → Keeps v u
  pub count : (p : Path) (v : OwnNode) → own p ≡ Some v → v.node.predecessor ≡ None → v.node.count ≡ 0

-- the folder has them
pub record IsKeptIn (look : RevisionBytes) (txn : TxnName) (f : Folder) (own : Own) : Type 0 where
  pub paths : (p : Path) (v : OwnNode) → own p ≡ Some v → v.node.created_path ≡ p
  pub places : (p : Path) (v : OwnNode) → own p ≡ Some v → v.node.id.place ≡ places.In txn
  pub kept : (p : Path) (v : OwnNode) → own p ≡ Some v → f.nodes (part_value v.node.id.node) (part_value v.node.id.copy) ≡ Some (kept_of v)
  pub drawn : (node copy : PartValue) (k : Kept) → f.nodes node copy ≡ Some k → IsBelow f.next_node node × IsBelow f.next_copy copy
  pub contents : (p : Path) (v : OwnNode) → own p ≡ Some v → HasContent look f.proto v

-- what hangs together path by path is a draft, where its own node-revisions are tied to what is met and the folder has them
abbrev pub TiedDrafts : Type 0
TiedDrafts = (look : RevisionBytes) (top base : ℕ) (met : NodesAt) (own : Own) (txn : TxnName) (f : Folder) → base ≤ top → nodewise.IsDraft look top base met → IsTied look met own → IsKeptIn look txn f own → IsDraft look top base txn f own

-- ---- all of it

-- what is met has all that is below what is of no transaction, and all that an own directory without a `children` file goes on from
pub record HasAll (look : RevisionBytes) (met : NodesAt) (own : Own) : Type 0 where
  pub below : (p : Path) (name : PathName) (d v : NodeRev) → met p ≡ Some d → in_txn d.id.place ≡ false → d.kind ≡ Dir → ChildOf look d name (Ok (Some v)) → met (p ++ name ∷ []) ≡ Some v
  pub inherited : (p : Path) (name : PathName) (d : OwnNode) (u v : NodeRev) → own p ≡ Some d → d.entries ≡ None → IsPred look d.node u → u.kind ≡ Dir → ChildOf look u name (Ok (Some v)) → met (p ++ name ∷ []) ≡ Some v

-- then it is what is met in the draft
abbrev pub TiedAreMet : Type 0
TiedAreMet = (look : RevisionBytes) (top base : ℕ) (trees : ℕ → TreeFunction) (nodes : ℕ → NodesAt) → ShowTrees look top trees → AreNodes look top nodes → base ≤ top
    → (met : NodesAt) (own : Own) (txn : TxnName) (f : Folder) → nodewise.IsDraft look top base met → IsTied look met own → IsDraft look top base txn f own → HasAll look met own
    → (p : Path) → draft_nodes nodes own (nodes base) p ≡ met p
