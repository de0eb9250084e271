-- How the node-revisions of all trees hang together, in the bytes of the revisions up to `top`.
--
-- The libsvn_fs_fs structure file says what the parts of an id are for: the node part is one for all that goes on from one new
-- node, the copy part is one for all that goes on from one copy. Which copy part and which copy root a changed node below a copy
-- gets is this project's profile.
use Rattle.std.specs.Prelude.{◌≡◌, ◌≢◌, ◌≤◌, ◌<◌, ◌⊎◌, ◌+◌, ◌-◌, ◌^◌, ◌++◌, ℕ, suc, min, nat_lt, [], ◌∷◌, Some, None, Ok, if◌then◌else◌}
use Rattle.fsfs_base.specs.Paths.{PathName, Path}
use Rattle.fsfs_revision.specs.Told.{RevisionBytes}
use Rattle.fsfs_noderev.specs.Ids.{part_value, Old}
use Rattle.fsfs_noderev.specs.declared.node_id.Part.{Part}
use Rattle.fsfs_noderev.specs.declared.node_id.Part.TheVariants as parts
use Rattle.fsfs_noderev.specs.declared.node_rev.CopySource.{CopySource}
use Rattle.fsfs_noderev.specs.declared.node_rev.NodeRev.{NodeRev}
use Rattle.fsfs_revision.specs.Shows.Reading.{ChildOf, StandsAt}
use Rattle.fsfs_revision.specs.Shows.Chains.{own_rev, IsPred, copy_root_of, contents_rev}

-- a node-revision of one of the trees
abbrev pub IsOf : RevisionBytes → ℕ → NodeRev → Type 0
IsOf look top v = (r : ℕ) × (p : Path) × (r ≤ top) × StandsAt look r p v

-- a directory of revision r, and what has this name in it
pub record IsChild (look : RevisionBytes) (top r : ℕ) (p : Path) (name : PathName) (dir v : NodeRev) : Type 0 where
  pub up_to : r ≤ top
  pub above : StandsAt look r p dir
  pub there : StandsAt look r (p ++ name ∷ []) v

-- u is before v in its chain of predecessors
pub data IsBehind (look : RevisionBytes) : NodeRev → NodeRev → Type 0 where
  Next : (v u : NodeRev) → IsPred look v u → IsBehind look v u
  Further : (v u w : NodeRev) → IsPred look v u → IsBehind look u w → IsBehind look v w

-- a part with a revision has this one: `<number>-<revision>`
abbrev pub HasSuffix : ℕ → Part → Type 0
HasSuffix rev (parts.Made n made) = made ≡ rev
HasSuffix rev (parts.Old n) = Unit {0}
HasSuffix rev (parts.New n) = Unit {0}

-- a copy part that was drawn in this revision, and that no copy has
pub record IsDrawn (look : RevisionBytes) (top rev : ℕ) (part : Part) : Type 0 where
  pub not_first : part_value part ≢ Old 0
  pub suffix : HasSuffix rev part
  pub no_copy : (u : NodeRev) (from : CopySource) → IsOf look top u → u.copy_from ≡ Some from → u.id.copy ≢ part

-- where the copy part of a node-revision that is no copy comes from
pub data CopyPartFrom (look : RevisionBytes) (top : ℕ) (dir v : NodeRev) : Type 0 where
  Directory : v.id.copy ≡ dir.id.copy → CopyPartFrom look top dir v
  Before : (u : NodeRev) → IsBehind look v u → v.id.copy ≡ u.id.copy → CopyPartFrom look top dir v
  Drawn : IsDrawn look top (own_rev v) v.id.copy → CopyPartFrom look top dir v

-- the copy root of what goes on from u in a directory: the directory's, if that was copied since u was made; else u's
abbrev pub root_after : NodeRev → NodeRev → ℕ × Path
root_after dir u = if nat_lt (own_rev u) (copy_root_of dir).0 then copy_root_of dir else copy_root_of u

pub record IdRule (look : RevisionBytes) (top : ℕ) : Type 0 where
  -- predecessor: it has the same node part and kind, and one predecessor less; the number of predecessors stops at 2^64 - 1
  pub node : (v u : NodeRev) → IsOf look top v → IsPred look v u → v.id.node ≡ u.id.node
  pub kind : (v u : NodeRev) → IsOf look top v → IsPred look v u → v.kind ≡ u.kind
  pub count : (v u : NodeRev) → IsOf look top v → IsPred look v u → v.count ≡ min (u.count + 1) (2 ^ 64 - 1)
  -- root: that of each revision is of node 0 and copy 0, made in that revision, and goes on from the root before it
  pub root_id : (r : ℕ) (v : NodeRev) → r ≤ top → StandsAt look r [] v → (part_value v.id.node ≡ Old 0) × (part_value v.id.copy ≡ Old 0) × (own_rev v ≡ r)
  pub root_copy : (r : ℕ) (v : NodeRev) → r ≤ top → StandsAt look r [] v → v.copy_from ≡ None
  pub root_next : (r : ℕ) (v u : NodeRev) → suc r ≤ top → StandsAt look (suc r) [] v → StandsAt look r [] u → v.predecessor ≡ Some u.id
  -- and has the copy root of that one
  pub root_root : (r : ℕ) (v u : NodeRev) → suc r ≤ top → StandsAt look (suc r) [] v → StandsAt look r [] u → copy_root_of v ≡ copy_root_of u
  -- revision 0 has a root without predecessor and properties, and nothing below it
  pub first : (v : NodeRev) → StandsAt look 0 [] v → (v.predecessor ≡ None) × (v.props ≡ None) × ((copy_root_of v).0 ≡ 0)
  pub alone : (name : PathName) (p : Path) (v : NodeRev) → StandsAt look 0 (name ∷ p) v → ⊥
  -- new node: it begins once, in the revision that its node part tells
  pub begins_once : (v u : NodeRev) → IsOf look top v → IsOf look top u → v.predecessor ≡ None → u.predecessor ≡ None → v.id.node ≡ u.id.node → v.id ≡ u.id
  pub begins_in : (v : NodeRev) → IsOf look top v → v.predecessor ≡ None → HasSuffix (own_rev v) v.id.node
  -- copy: it stands in its own revision at the path at which it was made, and nowhere else; it is its own copy root; it has a copy
  -- part of its own; and it goes on from its source, which is of an earlier revision
  pub copy_there : (v : NodeRev) (from : CopySource) → IsOf look top v → v.copy_from ≡ Some from → StandsAt look (own_rev v) v.created_path v
  pub copy_once : (v : NodeRev) (from : CopySource) (p : Path) → IsOf look top v → v.copy_from ≡ Some from → StandsAt look (own_rev v) p v → p ≡ v.created_path
  pub copy_root : (v : NodeRev) (from : CopySource) → IsOf look top v → v.copy_from ≡ Some from → copy_root_of v ≡ (own_rev v, v.created_path)
  pub copy_part : (v : NodeRev) (from : CopySource) → IsOf look top v → v.copy_from ≡ Some from → (part_value v.id.copy ≢ Old 0) × HasSuffix (own_rev v) v.id.copy
  pub copy_own : (v u : NodeRev) (from other : CopySource) → IsOf look top v → IsOf look top u → v.copy_from ≡ Some from → u.copy_from ≡ Some other → v.id.copy ≡ u.id.copy → v.id ≡ u.id
  pub copy_source : (v : NodeRev) (from : CopySource) → IsOf look top v → v.copy_from ≡ Some from
      → (from.rev < own_rev v) × (u : NodeRev) × StandsAt look from.rev from.path u × (v.predecessor ≡ Some u.id)
  -- changed node: what is no copy, in a directory of its own revision: a new node has the directory's copy root, and what goes on has it where
  -- the directory was copied since; the copy part is the directory's, an earlier one, or drawn
  pub root_of_new : (r : ℕ) (p : Path) (name : PathName) (dir v : NodeRev) → IsChild look top r p name dir v → own_rev v ≡ r → v.copy_from ≡ None → v.predecessor ≡ None
      → copy_root_of v ≡ copy_root_of dir
  pub root_of_next : (r : ℕ) (p : Path) (name : PathName) (dir v u : NodeRev) → IsChild look top r p name dir v → own_rev v ≡ r → v.copy_from ≡ None → IsPred look v u
      → copy_root_of v ≡ root_after dir u
  pub copy_part_of : (r : ℕ) (p : Path) (name : PathName) (dir v : NodeRev) → IsChild look top r p name dir v → own_rev v ≡ r → v.copy_from ≡ None → CopyPartFrom look top dir v
  -- entry: what is older than its directory was in the directory's predecessor under its name; what goes on goes on from what was there
  pub older : (r : ℕ) (p : Path) (name : PathName) (dir v : NodeRev) → IsChild look top r p name dir v → own_rev v < own_rev dir
      → (u : NodeRev) × IsPred look dir u × ChildOf look u name (Ok (Some v))
  pub goes_on : (r : ℕ) (p : Path) (name : PathName) (dir v w : NodeRev) → IsChild look top r p name dir v → own_rev v ≡ own_rev dir → v.copy_from ≡ None → IsPred look v w
      → (u : NodeRev) × IsPred look dir u × ChildOf look u name (Ok (Some w))
  -- properties: those that were not set with a node-revision are its predecessor's
  pub props : (v u : NodeRev) → IsOf look top v → IsPred look v u → (contents_rev v.props < own_rev v) ⊎ (v.props ≡ None) → v.props ≡ u.props
