-- A draft's node-revisions as they stand in the revision that is made of it.
use Rattle.std.specs.Prelude.{◌≡◌, ◌≢◌, ℕ, suc, true, false, Some, None, Ok}
use Rattle.fsfs_base.specs.Paths.{Path}
use Rattle.fsfs_revision.specs.Told.{RevisionBytes}
use Rattle.fsfs_noderev.specs.declared.node_id.Part.{Part}
use Rattle.fsfs_noderev.specs.declared.node_id.Part.TheVariants as parts
use Rattle.fsfs_noderev.specs.declared.rep.Contents.TheVariants as contents
use Rattle.fsfs_noderev.specs.declared.node_rev.NodeRev.{NodeRev}
use Rattle.fsfs_revision.specs.Shows.Reading.{Met, MetAt, StandsAt}
use Rattle.fsfs_revision.specs.Shows.Chains.{own_rev, copy_root_of, contents_rev}
use Rattle.fsfs_revision.specs.Shows.IdRules.{IdRule}
use Rattle.fsfs_draft.specs.OwnSides.{NodesAt, in_txn}
use Rattle.fsfs_draft.specs.NodeDrafts.{draft_root, IsDraft}

-- `_x` becomes `x-<revision>`
abbrev pub final_part : ℕ → Part → Part
final_part n (parts.New b) = parts.Made b n
final_part n (parts.Old b) = parts.Old b
final_part n (parts.Made b rev) = parts.Made b rev

-- v is the draft's node-revision u in revision n
pub record IsFinal (n : ℕ) (u v : NodeRev) : Type 0 where
  pub node : v.id.node ≡ final_part n u.id.node
  pub copy : v.id.copy ≡ final_part n u.id.copy
  pub rev : own_rev v ≡ n
  pub kind : v.kind ≡ u.kind
  pub predecessor : v.predecessor ≡ u.predecessor
  pub count : v.count ≡ u.count
  pub created_path : v.created_path ≡ u.created_path
  pub copy_from : v.copy_from ≡ u.copy_from
  pub root : copy_root_of v ≡ draft_root n u
  -- properties of its own stand in that revision
  pub own_props : u.props ≡ Some contents.Own → (v.props ≢ None) × (contents_rev v.props ≡ n)
  pub other_props : (u.props ≢ Some contents.Own) → v.props ≡ u.props

-- u as it is, where it is of a revision; else as it stands in revision n
pub data Finished (n : ℕ) (u v : NodeRev) : Type 0 where
  AsItWas : in_txn u.id.place ≡ false → v ≡ u → Finished n u v
  Done : in_txn u.id.place ≡ true → IsFinal n u v → Finished n u v

-- the bytes of revision n have, at each path, the draft's node-revision
pub record IsWritten (look : RevisionBytes) (n : ℕ) (own : NodesAt) : Type 0 where
  pub there : (p : Path) (u : NodeRev) → own p ≡ Some u → (v : NodeRev) × StandsAt look n p v × Finished n u v
  pub only : (p : Path) (v : NodeRev) → StandsAt look n p v → (u : NodeRev) × (own p ≡ Some u) × Finished n u v
  -- nothing is damaged
  pub whole : (p : Path) → (met : Met) × MetAt look n p (Ok met)
  -- no two stand at one place
  pub once : (p q : Path) (u w v : NodeRev) → own p ≡ Some u → own q ≡ Some w → in_txn u.id.place ≡ true → in_txn w.id.place ≡ true → StandsAt look n p v → StandsAt look n q v → p ≡ q

-- with the bytes of a draft's node-revisions behind it, the node-revisions of all revisions hang together
abbrev pub WrittenKeepsIds : Type 0
WrittenKeepsIds = (look : RevisionBytes) (top : ℕ) (own : NodesAt) → IdRule look top → IsDraft look top top own → IsWritten look (suc top) own → IdRule look (suc top)
