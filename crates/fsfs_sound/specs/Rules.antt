-- The rules of what a revision wrote: of its root, of each of its node-revisions, and of these against the directories that name
-- them.
--
-- They speak of a node-revision in its own revision alone. What a new directory holds of earlier revisions stood in the
-- directory's predecessor, and so in an earlier tree: it keeps the rules where that revision does. (The rules of ids are those of
-- `IdRules` of fsfs_revision, told for one revision.)
use Rattle.std.specs.Prelude.{◌≡◌, ◌≢◌, ◌<◌, ◌⊎◌, ℕ, zero, suc, List, [], Option, Some, None, Ok}
use Rattle.fsfs_base.specs.Paths.{PathName, Path}
use Rattle.fsfs_base.specs.declared.kind.Kind.TheVariants.{File, Dir}
use Rattle.fsfs_revision.specs.Told.{RevisionBytes}
use Rattle.fsfs_noderev.specs.Ids.{part_value, Old}
use Rattle.fsfs_noderev.specs.declared.node_id.NodeId.{NodeId}
use Rattle.fsfs_noderev.specs.declared.node_rev.CopySource.{CopySource}
use Rattle.fsfs_noderev.specs.declared.node_rev.NodeRev.{NodeRev}
use Rattle.fsfs_revision.specs.Shows.Reading.{DirEntry, Pairs, EntriesOf, TextOf, PropsOf, OfEntry, named, RootOf, StandsAt}
use Rattle.fsfs_revision.specs.Shows.Chains.{own_rev, IsPred, copy_root_of, contents_rev}
use Rattle.fsfs_revision.specs.Shows.IdRules.{HasSuffix, IsBehind, root_after}
use Rattle.fsfs_sound.specs.Written.{rev_of_id, IsWritten, WasNamed, Precedes}

-- ---- what it holds

-- its text is read, or it is its predecessor's
abbrev pub HasText : RevisionBytes → NodeRev → Type 0
HasText look v = ((text : List ℕ) × TextOf look v (Ok text)) ⊎ ((u : NodeRev) × IsPred look v u × (v.text ≡ u.text))

-- and so are its properties; those that were not set with it are its predecessor's
pub record HasProps (look : RevisionBytes) (v : NodeRev) : Type 0 where
  pub had : ((pairs : Pairs) × PropsOf look v (Ok pairs)) ⊎ ((u : NodeRev) × IsPred look v u × (v.props ≡ u.props))
  pub kept : (u : NodeRev) → IsPred look v u → (contents_rev v.props < own_rev v) ⊎ (v.props ≡ None) → v.props ≡ u.props

-- ---- what begins, and what is copied

-- a node-revision without predecessor: its node part tells no other revision, and no other that begins has it
pub record BeginsAlone (look : RevisionBytes) (r : ℕ) (v : NodeRev) : Type 0 where
  pub suffix : HasSuffix r v.id.node
  pub once : (u : NodeRev) → IsWritten look r u → u.predecessor ≡ None → v.id.node ≡ u.id.node → v.id ≡ u.id

-- a copy, of this source, that stands at the path: it was made there, is its own copy root, has a copy part that no other copy has,
-- and goes on from what stands at its source
pub record IsSoundCopy (look : RevisionBytes) (r : ℕ) (p : Path) (v : NodeRev) (from : CopySource) : Type 0 where
  pub there : p ≡ v.created_path
  pub root : copy_root_of v ≡ (r, v.created_path)
  pub not_first : part_value v.id.copy ≢ Old 0
  pub suffix : HasSuffix r v.id.copy
  pub own : (u : NodeRev) (other : CopySource) → IsWritten look r u → u.copy_from ≡ Some other → v.id.copy ≡ u.id.copy → v.id ≡ u.id
  pub earlier : from.rev < r
  pub source : (u : NodeRev) × StandsAt look from.rev from.path u × (v.predecessor ≡ Some u.id)

-- ---- against the directory that names it

-- the copy root of what is no copy is that of its directory, or of its predecessor
pub record HasRootOf (look : RevisionBytes) (dir v : NodeRev) : Type 0 where
  pub new : v.predecessor ≡ None → copy_root_of v ≡ copy_root_of dir
  pub next : (u : NodeRev) → IsPred look v u → copy_root_of v ≡ root_after dir u

-- what is no copy goes on from what the directory's predecessor named so
abbrev pub GoesOnThere : RevisionBytes → NodeRev → PathName → NodeRev → Type 0
GoesOnThere look dir name v = (id : NodeId) → v.predecessor ≡ Some id → (entry : DirEntry) × WasNamed look dir name entry × (entry.id ≡ id)

pub record FitsDirectory (look : RevisionBytes) (dir : NodeRev) (name : PathName) (v : NodeRev) : Type 0 where
  pub root : HasRootOf look dir v
  pub goes_on : GoesOnThere look dir name v

-- a copy part that was drawn for it: no copy of the revisions up to `top` has it
pub record IsDrawnPart (look : RevisionBytes) (top : ℕ) (v : NodeRev) : Type 0 where
  pub not_first : part_value v.id.copy ≢ Old 0
  pub suffix : HasSuffix (own_rev v) v.id.copy
  pub no_copy : (u : NodeRev) (from : CopySource) → IsWritten look top u → u.copy_from ≡ Some from → u.id.copy ≢ v.id.copy

-- where the copy part of what is no copy comes from
pub data PartFrom (look : RevisionBytes) (top : ℕ) (dir v : NodeRev) : Type 0 where
  Directory : v.id.copy ≡ dir.id.copy → PartFrom look top dir v
  Before : (u : NodeRev) → IsBehind look v u → v.id.copy ≡ u.id.copy → PartFrom look top dir v
  Drawn : IsDrawnPart look top v → PartFrom look top dir v

-- an entry of a directory of revision r: what is older was named so before, and what is new is there and fits the directory
pub record IsSoundEntry (look : RevisionBytes) (r : ℕ) (dir : NodeRev) (name : PathName) (entry : DirEntry) : Type 0 where
  pub older : rev_of_id entry.id < r → (before : DirEntry) × WasNamed look dir name before × (before.id ≡ entry.id) × (before.kind ≡ entry.kind)
  pub newer : rev_of_id entry.id ≡ r → (v : NodeRev) × OfEntry look entry (Ok v) × (v.copy_from ≡ None → FitsDirectory look dir name v)

-- its entries are read, and each keeps the rules
abbrev pub HasEntries : RevisionBytes → ℕ → NodeRev → Type 0
HasEntries look r dir = (entries : List DirEntry) × EntriesOf look dir (Ok entries) × ((name : PathName) (entry : DirEntry) → named name entries ≡ Some entry → IsSoundEntry look r dir name entry)

-- ---- a node-revision that revision r wrote, and that stands at the path

pub record IsSoundNode (look : RevisionBytes) (r : ℕ) (p : Path) (v : NodeRev) : Type 0 where
  pub pred : (u : Option NodeRev) × Precedes look v u
  pub begins : v.predecessor ≡ None → BeginsAlone look r v
  pub copy : (from : CopySource) → v.copy_from ≡ Some from → IsSoundCopy look r p v from
  pub props : HasProps look v
  pub text : v.kind ≡ File → HasText look v
  pub entries : v.kind ≡ Dir → HasEntries look r v

-- ---- the root

-- revision 0 has a root without predecessor, properties and entries
pub record IsFirstRoot (look : RevisionBytes) (v : NodeRev) : Type 0 where
  pub pred : v.predecessor ≡ None
  pub props : v.props ≡ None
  pub copied : (copy_root_of v).0 ≡ 0
  pub empty : EntriesOf look v (Ok [])

-- and that of each later one goes on from the root before it, and has its copy root
pub record FollowsRoot (v last : NodeRev) : Type 0 where
  pub pred : v.predecessor ≡ Some last.id
  pub root : copy_root_of v ≡ copy_root_of last

abbrev pub FollowsLast : RevisionBytes → ℕ → NodeRev → Type 0
FollowsLast look zero v = IsFirstRoot look v
FollowsLast look (suc r) v = (last : NodeRev) × RootOf look r (Ok last) × FollowsRoot v last

-- it is of node 0 and copy 0, and no copy
pub record IsSoundRoot (look : RevisionBytes) (r : ℕ) (v : NodeRev) : Type 0 where
  pub node : part_value v.id.node ≡ Old 0
  pub copy : part_value v.id.copy ≡ Old 0
  pub no_copy : v.copy_from ≡ None
  pub follows : FollowsLast look r v
