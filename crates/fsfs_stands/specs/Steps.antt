-- A point of the history of a path, and the one before it, as they are read.
--
-- Where a node-revision is of a later revision than the latest copy that it came by, the point before it is its predecessor, at the
-- same path; else what that copy copied to the path. (libsvn_fs_fs, `history_prev`: it too follows predecessors down to the latest
-- copy root, and opens a path anew behind a copy alone.)
use Rattle.std.specs.Prelude.{◌≡◌, ℕ, nat_lt, max, Option, Some, None, Result, Ok, Err, if◌then◌else◌}
use Rattle.fsfs_base.specs.Paths.{Path}
use Rattle.fsfs_revision.specs.Told.{RevisionBytes}
use Rattle.fsfs_noderev.specs.declared.node_id.NodeId.{NodeId}
use Rattle.fsfs_noderev.specs.declared.node_rev.NodeRev.{NodeRev}
use Rattle.fsfs_revision.specs.declared.wrong.Wrong.{Wrong}
use Rattle.fsfs_revision.specs.Damage.Readings.{AndThen}
use Rattle.fsfs_revision.specs.Shows.Reading.{OfId, Met, Stands, Lacking, Blocked, MetAt}
use Rattle.fsfs_revision.specs.Shows.Chains.{own_rev}
use Rattle.fsfs_revision.specs.Shows.Shown.{source_by}
use Rattle.fsfs_revision.specs.Ancestry.CopyRoots.{IsRootedAt}

-- the path, the node-revision that stood there, and the latest copy root there
pub record Point : Type 0 where
  pub path : Path
  pub node : NodeRev
  pub root : ℕ × Path

-- the revision of a point: that of its node-revision, or of a later copy of it or of something above it
abbrev pub point_rev : Point → ℕ
point_rev at = max at.root.0 (own_rev at.node)

-- ---- the first point of a path

abbrev pub IsPointIn : RevisionBytes → ℕ → Path → Met → Result (Option Point) Wrong → Type 0
IsPointIn look r p (Stands v) (Ok (Some at)) = (at.path ≡ p) × (at.node ≡ v) × IsRootedAt look r p v at.root
IsPointIn look r p (Stands v) (Ok None) = ⊥
IsPointIn look r p (Stands v) (Err w) = ⊥
IsPointIn look r p (Lacking names) next = next ≡ Ok None
IsPointIn look r p (Blocked names) next = next ≡ Ok None

-- at a path of a revision; none where nothing stands there
abbrev pub PointAt : RevisionBytes → ℕ → Path → Result (Option Point) Wrong → Type 0
PointAt look r p = AndThen (MetAt look r p) (IsPointIn look r p)

-- ---- one step back

-- where a point leads: nowhere, since it came to be there; to its predecessor; or across the copy that it came by
pub data Lead : Type 0 where
  Nowhere : Lead
  Back : NodeId → Lead
  Across : Lead

abbrev pub lead_by : ℕ → ℕ → Option NodeId → Lead
lead_by copied own None = if nat_lt own copied then Across else Nowhere
lead_by copied own (Some id) = if nat_lt copied own then Back id else Across

abbrev pub lead_of : Point → Lead
lead_of at = lead_by at.root.0 (own_rev at.node) at.node.predecessor

-- the predecessor, at the same path
abbrev pub IsBefore : RevisionBytes → Point → NodeId → Result (Option Point) Wrong → Type 0
IsBefore look at id (Ok None) = ⊥
IsBefore look at id (Ok (Some to)) = OfId look id (Ok to.node) × (to.path ≡ at.path) × (to.root ≡ at.root)
IsBefore look at id (Err w) = OfId look id (Err w)

-- what a copy was made of
abbrev pub OfSource : RevisionBytes → Option (ℕ × Path) → Result (Option Point) Wrong → Type 0
OfSource look None next = next ≡ Ok None
OfSource look (Some from) next = PointAt look from.0 from.1 next

-- across the copy at the copy root
abbrev pub AcrossCopy : RevisionBytes → Point → Result (Option Point) Wrong → Type 0
AcrossCopy look at = AndThen (MetAt look at.root.0 at.root.1) (λ met. OfSource look (source_by at.root.1 at.path met))

abbrev pub Leads : RevisionBytes → Point → Lead → Result (Option Point) Wrong → Type 0
Leads look at Nowhere next = next ≡ Ok None
Leads look at (Back id) next = IsBefore look at id next
Leads look at Across next = AcrossCopy look at next

-- the point before this one, or none, or what is wrong on the way to it
abbrev pub HistoryStep : RevisionBytes → Point → Result (Option Point) Wrong → Type 0
HistoryStep look at = Leads look at (lead_of at)
