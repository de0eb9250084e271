-- The walk down the node-revisions that a revision wrote: what was checked, and what is left.
use Rattle.std.specs.Prelude.{◌≡◌, ◌≢◌, ◌≤◌, ◌<◌, ◌⊎◌, ◌+◌, ◌-◌, ℕ, true, false, List, [], ◌∷◌, length, Contains, Option, Some, None, slice_get, Ok, Err, option_map}
use Rattle.fsfs_base.specs.Paths.{PathName, Path}
use Rattle.fsfs_base.specs.declared.kind.Kind.TheVariants.{File, Dir}
use Rattle.fsfs_noderev.specs.Ids.{part_value, Old}
use Rattle.fsfs_noderev.specs.declared.node_id.Part.{Part}
use Rattle.fsfs_noderev.specs.declared.node_rev.CopySource.{CopySource}
use Rattle.fsfs_noderev.specs.declared.node_rev.NodeRev.{NodeRev}
use Rattle.fsfs_revision.specs.Told.{RevisionBytes}
use Rattle.fsfs_revision.specs.declared.wrong.Wrong.{Wrong}
use Rattle.fsfs_revision.specs.Shows.Reading.{DirEntry, EntriesOf, OfEntry, RootOf, StandsAt, named}
use Rattle.fsfs_revision.specs.Shows.Chains.{own_rev, IsPred, copy_root_of}
use Rattle.fsfs_revision.specs.Shows.IdRules.{HasSuffix}
use Rattle.fsfs_dag.specs.Seen.{IsSeen}
use Rattle.fsfs_dag.specs.TreeWalks.{Left}
use Rattle.fsfs_dag.specs.Views.{home_of}
use Rattle.fsfs_history.specs.declared.entries_by_name.EntriesByName.{EntriesByName}
use Rattle.fsfs_history.specs.KeptDirs.{by_name}
use Rattle.fsfs_verify.specs.declared.links.Links.{Links}
use Rattle.fsfs_verify.specs.declared.above.Above.{Above}
use Rattle.fsfs_verify.specs.declared.nodes.Copied.{Copied}
use Rattle.fsfs_verify.specs.declared.nodes.NewNodes.{NewNodes}
use Rattle.fsfs_verify.specs.declared.parts.Parts.{Parts}
use Rattle.fsfs_verify.specs.AllWritten.{IsBefore, IsChildBefore}
use Rattle.fsfs_verify.specs.Brought.{Brought}
use Rattle.fsfs_verify.specs.Copies.{HasSource, IsPartOld, IsPartNew}
use Rattle.fsfs_verify.specs.LinksUp.{LinkValue, link_at, LeadsUp}
use Rattle.fsfs_sound.specs.Rules.{HasText, HasProps, FitsDirectory}
use Rattle.fsfs_sound.specs.Written.{rev_of_id, IsNewAt, Names, WasNamed, Precedes}

-- ---- the stack of entries, and the directories above them

-- levels fall, and are those of so many directories: the one of an entry stands above it until all that is behind it is taken
abbrev pub AreBelow : ℕ → Left → Type 0
AreBelow depth [] = Unit {0}
AreBelow depth (p ∷ rest) = (0 < p.0) × (p.0 ≤ depth) × AreBelow p.0 rest

-- the list of a predecessor, by the names; an empty one where there is none
abbrev pub HasListOf : RevisionBytes → Option NodeRev → EntriesByName → Type 0
HasListOf look None found = (name : PathName) → by_name found name ≡ None
HasListOf look (Some u) found = (entries : List DirEntry) × EntriesOf look u (Ok entries) × ((name : PathName) → by_name found name ≡ named name entries)

abbrev pub IsWrongList : RevisionBytes → Option NodeRev → Wrong → Type 0
IsWrongList look None w = ⊥
IsWrongList look (Some u) w = EntriesOf look u (Err w)

-- the list of the predecessor of a directory above
abbrev pub IsListBefore : RevisionBytes → NodeRev → EntriesByName → Type 0
IsListBefore look dir found = (name : PathName) (before : DirEntry) → (by_name found name ≡ Some before → WasNamed look dir name before) × (WasNamed look dir name before → by_name found name ≡ Some before)

-- an entry of a directory is left: the directory stands above it
pub record IsLeft (left : Left) (above : List Above) (dir : NodeRev) (entry : DirEntry) : Type 0 where
  pub level : ℕ
  pub waits : Contains left (level, entry)
  pub place : Above
  pub place_is : slice_get above (level - 1) ≡ Some place
  pub dir_is : place.dir.node ≡ dir

-- what is left is an entry of the directory above it
pub record IsEntryLeft (look : RevisionBytes) (above : List Above) (level : ℕ) (entry : DirEntry) : Type 0 where
  pub below : 0 < level
  pub place : Above
  pub place_is : slice_get above (level - 1) ≡ Some place
  pub listed : Names look place.dir.node entry.name entry

-- of two that are left on one level, each has another name
abbrev pub AreApart : Left → Type 0
AreApart [] = Unit {0}
AreApart (p ∷ rest) = ((q : ℕ × DirEntry) → Contains rest q → p.0 ≡ q.0 → p.1.name ≢ q.1.name) × AreApart rest

-- ---- a node-revision that was checked by itself

-- a copy, but for the path at which it stands
pub record IsCheckedCopy (look : RevisionBytes) (r : ℕ) (v : NodeRev) (from : CopySource) : Type 0 where
  pub root : copy_root_of v ≡ (r, v.created_path)
  pub not_first : part_value v.id.copy ≢ Old 0
  pub suffix : HasSuffix r v.id.copy
  pub source : HasSource look v from

-- what it goes on from stands in the tree of an earlier revision
abbrev pub HasEarlierPred : RevisionBytes → ℕ → NodeRev → Type 0
HasEarlierPred look r v = (u : NodeRev) → IsPred look v u → (s : ℕ) × (q : Path) × (s < r) × StandsAt look s q u

pub record IsChecked (look : RevisionBytes) (r : ℕ) (v : NodeRev) : Type 0 where
  pub stands : (p : Path) × IsNewAt look r p v
  pub pred : (u : Option NodeRev) × Precedes look v u
  pub earlier : HasEarlierPred look r v
  pub props : HasProps look v
  pub text : v.kind ≡ File → HasText look v
  pub copy : (from : CopySource) → v.copy_from ≡ Some from → IsCheckedCopy look r v from

-- ---- an entry of a directory that was checked

-- a node-revision is named first by this directory and name, or again
abbrev pub IsLinked : Links → NodeRev → NodeRev → PathName → Type 0
IsLinked links dir v name = (link : LinkValue) × (link_at links (home_of v).offset ≡ Some link) × ((link.again ≡ true) ⊎ ((link.again ≡ false) × (link.dir ≡ (home_of dir).offset) × (link.name ≡ name)))

-- its copy part is an old one, or was drawn for it
pub data HasTakenPart (look : RevisionBytes) (r : ℕ) (drawn : List Part) (dir v : NodeRev) : Type 0 where
  Kept : IsPartOld look dir v → HasTakenPart look r drawn dir v
  DrawnFor : IsPartNew look dir v → part_value v.id.copy ≢ Old 0 → HasSuffix r v.id.copy → Contains drawn v.id.copy → HasTakenPart look r drawn dir v

-- an older one was named so before; a new one names a node-revision that was checked, which fits the directory
pub data IsTaken (look : RevisionBytes) (r : ℕ) (links : Links) (done : List NodeRev) (drawn : List Part) (dir : NodeRev) (name : PathName) (entry : DirEntry) : Type 0 where
  Older : (before : DirEntry) → rev_of_id entry.id < r → WasNamed look dir name before → before.id ≡ entry.id → before.kind ≡ entry.kind → IsTaken look r links done drawn dir name entry
  Newer : (v : NodeRev) → OfEntry look entry (Ok v) → own_rev v ≡ r → Contains done v → IsLinked links dir v name
      → (v.copy_from ≡ None → FitsDirectory look dir name v × HasTakenPart look r drawn dir v) → IsTaken look r links done drawn dir name entry

-- ---- all of it

-- it was written before, or checked now
abbrev pub IsMet : RevisionBytes → ℕ → List NodeRev → NodeRev → Type 0
IsMet look r done v = IsBefore look r v ⊎ Contains done v

-- the lists have the parts that what was met brought up, and no others; and what was checked now brought up parts of its own
pub record AreMet (look : RevisionBytes) (r : ℕ) (begun copied drawn : List Part) (done : List NodeRev) : Type 0 where
  pub begins : (v : NodeRev) → IsMet look r done v → v.predecessor ≡ None → Contains begun v.id.node
  pub begun_by : (part : Part) → Contains begun part → (v : NodeRev) × IsMet look r done v × (v.predecessor ≡ None) × (v.id.node ≡ part)
  pub begins_once : (v u : NodeRev) → Contains done v → IsMet look r done u → v.predecessor ≡ None → u.predecessor ≡ None → v.id.node ≡ u.id.node → v.id ≡ u.id
  pub begins_now : (v : NodeRev) → Contains done v → v.predecessor ≡ None → HasSuffix r v.id.node
  pub copies : (v : NodeRev) (from : CopySource) → IsMet look r done v → v.copy_from ≡ Some from → Contains copied v.id.copy
  pub copied_by : (part : Part) → Contains copied part → (v : NodeRev) × (from : CopySource) × IsMet look r done v × (v.copy_from ≡ Some from) × (v.id.copy ≡ part)
  pub copies_once : (v u : NodeRev) (from other : CopySource) → Contains done v → IsMet look r done u → v.copy_from ≡ Some from → u.copy_from ≡ Some other → v.id.copy ≡ u.id.copy → v.id ≡ u.id
  pub draws : (dir v : NodeRev) → IsChildBefore look r dir v → IsPartOld look dir v ⊎ Contains drawn v.id.copy
  pub drawn_by : (part : Part) → Contains drawn part → (dir v : NodeRev) × IsChildBefore look (r + 1) dir v × IsPartNew look dir v × HasEarlierPred look r v × (v.id.copy ≡ part)
  pub apart : (part : Part) → Contains copied part → Contains drawn part → ⊥

-- a directory among what was checked names it so
pub record IsNamedIn (look : RevisionBytes) (done : List NodeRev) (v dir : NodeRev) (name : PathName) : Type 0 where
  pub among : Contains done dir
  pub is_dir : dir.kind ≡ Dir
  pub entry : DirEntry
  pub listed : Names look dir name entry
  pub read : OfEntry look entry (Ok v)

-- a link is where a node-revision is named first; another directory or another name names it, too, where it says so
pub record IsLink (look : RevisionBytes) (done : List NodeRev) (v : NodeRev) (link : LinkValue) : Type 0 where
  pub dir : NodeRev
  pub place : (home_of dir).offset ≡ link.dir
  pub first : IsNamedIn look done v dir link.name
  pub again : link.again ≡ true → (other : NodeRev) × (name : PathName) × IsNamedIn look done v other name × ((other ≢ dir) ⊎ (name ≢ link.name))

-- where what was checked is named, but for the root, and nothing else is
pub record AreLinked (look : RevisionBytes) (root : NodeRev) (links : Links) (done : List NodeRev) : Type 0 where
  pub top : link_at links (home_of root).offset ≡ None
  pub linked : (v : NodeRev) → Contains done v → (v ≡ root) ⊎ ((link : LinkValue) × (link_at links (home_of v).offset ≡ Some link))
  pub only : (place : ℕ) (link : LinkValue) → link_at links place ≡ Some link → (v : NodeRev) × Contains done v × ((home_of v).offset ≡ place) × IsLink look done v link

-- a copy is among those whose paths are checked at last
abbrev pub IsCopied : NodeRev → Copied → Type 0
IsCopied v c = (c.place ≡ (home_of v).offset) × (c.path ≡ v.created_path)

pub record AreCopied (copies : List Copied) (done : List NodeRev) : Type 0 where
  pub each : (v : NodeRev) (from : CopySource) → Contains done v → v.copy_from ≡ Some from → (c : Copied) × Contains copies c × IsCopied v c
  pub only : (c : Copied) → Contains copies c → (v : NodeRev) × (from : CopySource) × Contains done v × (v.copy_from ≡ Some from) × IsCopied v c

-- each entry of a directory was taken or is left
abbrev pub HasTaken : RevisionBytes → ℕ → Left → List Above → Links → List NodeRev → List Part → NodeRev → Type 0
HasTaken look r left above links done drawn dir = (list : List DirEntry) × EntriesOf look dir (Ok list)
    × ((name : PathName) (entry : DirEntry) → named name list ≡ Some entry → IsTaken look r links done drawn dir name entry ⊎ IsLeft left above dir entry)

-- the directories above, from the root down, with the lists of their predecessors, and what is left below them
pub record IsStack (look : RevisionBytes) (left : Left) (above : List Above) (links : Links) (done : List NodeRev) : Type 0 where
  pub dirs : (i : ℕ) (a : Above) → slice_get above i ≡ Some a → Contains done a.dir.node × IsListBefore look a.dir.node a.before
  pub other : (i j : ℕ) (a b : Above) → slice_get above i ≡ Some a → slice_get above j ≡ Some b → (home_of a.dir.node).offset ≡ (home_of b.dir.node).offset → i ≡ j
  pub entries : (level : ℕ) (entry : DirEntry) → Contains left (level, entry) → IsEntryLeft look above level entry
  -- none was taken before, and each is left once: so what is linked again is named in two ways
  pub fresh : (level : ℕ) (entry : DirEntry) (a : Above) (place : ℕ) (link : LinkValue) → Contains left (level, entry) → slice_get above (level - 1) ≡ Some a → link_at links place ≡ Some link
      → link.dir ≡ (home_of a.dir.node).offset → link.name ≢ entry.name
  pub apart : AreApart left

pub record IsWalk (look : RevisionBytes) (r : ℕ) (root : NodeRev) (left : Left) (above : List Above) (named : Links) (made : List Copied) (begun copied drawn : List Part) (done : List NodeRev) : Type 0 where
  pub top : RootOf look r (Ok root) × Contains done root
  pub checked : (v : NodeRev) → Contains done v → IsChecked look r v
  pub entries : (dir : NodeRev) → Contains done dir → dir.kind ≡ Dir → HasTaken look r left above named done drawn dir
  pub first : (a : Above) × (slice_get above 0 ≡ Some a) × (a.dir.node ≡ root)
  pub stack : IsStack look left above named done
  pub links : AreLinked look root named done
  pub copies : AreCopied made done
  pub met : AreMet look r begun copied drawn done

-- with some lists of parts, and of what was checked
pub record HasWalk (look : RevisionBytes) (r : ℕ) (root : NodeRev) (left : Left) (nodes : NewNodes) (parts : Parts) : Type 0 where
  pub begun : List Part
  pub copied : List Part
  pub drawn : List Part
  pub done : List NodeRev
  pub rev : nodes.rev ≡ r
  pub seen : IsSeen look nodes.walk.seen
  pub below : AreBelow (length nodes.above.items) left
  pub brought : Brought r parts begun copied drawn
  pub walk : IsWalk look r root left nodes.above.items nodes.links nodes.copies.items begun copied drawn done

-- each copy stands at the path at which it was made, and nowhere else
abbrev pub CopiesStandOnce : NewNodes → ℕ → Type 0
CopiesStandOnce nodes root = (c : Copied) → Contains nodes.copies.items c → LeadsUp nodes.links root c.place c.path
