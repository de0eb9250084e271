-- What a revision wrote itself, by the bytes of all revisions.
use Rattle.std.specs.Prelude.{◌≡◌, ◌≤◌, ◌+◌, ◌-◌, ◌^◌, ◌++◌, ℕ, min, List, [], ◌∷◌, Option, Some, None, Ok}
use Rattle.fsfs_base.specs.Paths.{PathName, Path}
use Rattle.fsfs_revision.specs.Told.{RevisionBytes}
use Rattle.fsfs_noderev.specs.declared.node_id.NodeId.{NodeId}
use Rattle.fsfs_noderev.specs.declared.node_rev.NodeRev.{NodeRev}
use Rattle.fsfs_revision.specs.Shows.Reading.{DirEntry, EntriesOf, named, offset_of, StandsAt}
use Rattle.fsfs_revision.specs.Shows.Chains.{own_rev, IsPred}

-- the revision that an id names
abbrev pub rev_of_id : NodeId → ℕ
rev_of_id id = (offset_of id.place).rev

-- a node-revision that revision r wrote stands at the path
pub record IsNewAt (look : RevisionBytes) (r : ℕ) (p : Path) (v : NodeRev) : Type 0 where
  pub stands : StandsAt look r p v
  pub own : own_rev v ≡ r

-- one of the revisions up to r wrote it
pub record IsWritten (look : RevisionBytes) (r : ℕ) (v : NodeRev) : Type 0 where
  pub rev : ℕ
  pub path : Path
  pub up_to : rev ≤ r
  pub new : IsNewAt look rev path v

-- revision r wrote a directory and what has this name in it
pub record IsNewChild (look : RevisionBytes) (r : ℕ) (p : Path) (name : PathName) (dir v : NodeRev) : Type 0 where
  pub above : IsNewAt look r p dir
  pub there : IsNewAt look r (p ++ name ∷ []) v

-- a directory has this entry behind the name
abbrev pub Names : RevisionBytes → NodeRev → PathName → DirEntry → Type 0
Names look dir name entry = (entries : List DirEntry) × EntriesOf look dir (Ok entries) × (named name entries ≡ Some entry)

-- so has the predecessor of the directory
abbrev pub WasNamed : RevisionBytes → NodeRev → PathName → DirEntry → Type 0
WasNamed look dir name entry = (u : NodeRev) × IsPred look dir u × Names look u name entry

-- v has the node part and the kind of u, and one predecessor more; the number of predecessors stops at 2^64 - 1
pub record GoesOnFrom (v u : NodeRev) : Type 0 where
  pub node : v.id.node ≡ u.id.node
  pub kind : v.kind ≡ u.kind
  pub count : v.count ≡ min (u.count + 1) (2 ^ 64 - 1)

-- its predecessor, where it has one, is had, and it goes on from that
abbrev pub Precedes : RevisionBytes → NodeRev → Option NodeRev → Type 0
Precedes look v None = v.predecessor ≡ None
Precedes look v (Some u) = IsPred look v u × GoesOnFrom v u
