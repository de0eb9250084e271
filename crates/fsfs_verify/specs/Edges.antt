-- A node-revision and an entry against the directory that names them, by the entry that the directory's predecessor has of the name.
use Rattle.std.specs.Prelude.{◌≡◌, ◌≢◌, ◌⊎◌, ℕ, List, Option, Some, None, Err, Ok}
use Rattle.fsfs_revision.specs.Told.{RevisionBytes}
use Rattle.fsfs_revision.specs.declared.damage.DamageKind.TheVariants as what
use Rattle.fsfs_revision.specs.declared.wrong.Wrong.{Wrong}
use Rattle.fsfs_revision.specs.Damage.Damages.{damaged}
use Rattle.fsfs_noderev.specs.declared.node_id.Part.{Part}
use Rattle.fsfs_noderev.specs.declared.node_id.NodeId.{NodeId}
use Rattle.fsfs_noderev.specs.declared.node_rev.NodeRev.{NodeRev}
use Rattle.fsfs_revision.specs.Shows.Reading.{DirEntry, OfEntry, offset_of}
use Rattle.fsfs_verify.specs.Copies.{TakesPart, IsWrongPart}
use Rattle.fsfs_sound.specs.Rules.{HasRootOf}

-- both name one node-revision, as one kind
abbrev pub IsSameTarget : DirEntry → Option DirEntry → Type 0
IsSameTarget entry None = ⊥
IsSameTarget entry (Some before) = (before.id ≡ entry.id) × (before.kind ≡ entry.kind)

-- the entry isn't had, or it was not named so before
abbrev pub IsWrongOlder : RevisionBytes → DirEntry → Option DirEntry → Wrong → Type 0
IsWrongOlder look entry before w = OfEntry look entry (Err w) ⊎ ((v : NodeRev) × OfEntry look entry (Ok v) × (IsSameTarget entry before → ⊥) × (w ≡ damaged (offset_of v.id.place) what.CopyId))

-- what goes on goes on from what was named so before
abbrev pub GoesOnFromEntry : Option DirEntry → NodeRev → Type 0
GoesOnFromEntry before v = (id : NodeId) → v.predecessor ≡ Some id → (entry : DirEntry) × (before ≡ Some entry) × (entry.id ≡ id)

-- what is no copy has the copy root that it has to have, and goes on from what was there
pub record FitsEdge (look : RevisionBytes) (dir v : NodeRev) (before : Option DirEntry) : Type 0 where
  pub root : HasRootOf look dir v
  pub goes_on : GoesOnFromEntry before v

-- a copy brings no part up here
abbrev pub TakesEdge : RevisionBytes → ℕ → List Part → NodeRev → NodeRev → Option DirEntry → List Part → List Part → Type 0
TakesEdge look rev copied dir v before drawn now = ((v.copy_from ≢ None) × (now ≡ drawn)) ⊎ ((v.copy_from ≡ None) × FitsEdge look dir v before × TakesPart look rev copied dir v drawn now)

abbrev pub IsWrongEdge : RevisionBytes → ℕ → List Part → NodeRev → NodeRev → Option DirEntry → Wrong → Type 0
IsWrongEdge look rev copied dir v before w = (v.copy_from ≡ None) × (((FitsEdge look dir v before → ⊥) × (w ≡ damaged (offset_of v.id.place) what.CopyId)) ⊎ IsWrongPart look rev copied dir v w)
