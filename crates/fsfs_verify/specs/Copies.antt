-- What a copy is by itself, and where a copy part comes from, behind the parts that others brought up.
use Rattle.std.specs.Prelude.{◌≡◌, ◌≢◌, ◌≤◌, ◌⊎◌, ◌++◌, ℕ, Bool, true, false, List, [], ◌∷◌, Some, Err}
use Rattle.fsfs_revision.specs.Told.{RevisionBytes}
use Rattle.fsfs_revision.specs.declared.damage.DamageKind.TheVariants as what
use Rattle.fsfs_revision.specs.declared.wrong.Wrong.{Wrong}
use Rattle.fsfs_revision.specs.Damage.Damages.{damaged}
use Rattle.fsfs_noderev.specs.declared.node_id.Part.{Part}
use Rattle.fsfs_noderev.specs.declared.node_id.Part.TheVariants as parts
use Rattle.fsfs_noderev.specs.declared.node_rev.CopySource.{CopySource}
use Rattle.fsfs_noderev.specs.declared.node_rev.NodeRev.{NodeRev}
use Rattle.fsfs_revision.specs.Shows.Reading.{offset_of, MetAt, StandsAt}
use Rattle.fsfs_revision.specs.Shows.Chains.{own_rev, Chain, copy_root_of}
use Rattle.fsfs_revision.specs.Shows.IdRules.{IsBehind}
use Rattle.fsfs_verify.specs.Brought.{MayCopy, MayDraw}

-- it goes on from what stands at its source
abbrev pub HasSource : RevisionBytes → NodeRev → CopySource → Type 0
HasSource look v from = (u : NodeRev) × StandsAt look from.rev from.path u × (v.predecessor ≡ Some u.id)

-- a copy of this revision, but for the path at which it stands
pub record IsCopy (look : RevisionBytes) (rev : ℕ) (copied drawn : List Part) (v : NodeRev) (from : CopySource) : Type 0 where
  pub root : copy_root_of v ≡ (rev, v.created_path)
  pub part : MayCopy rev copied drawn v.id.copy
  pub source : HasSource look v from

-- its source isn't had, or it isn't such a copy
abbrev pub IsWrongCopy : RevisionBytes → ℕ → List Part → List Part → NodeRev → CopySource → Wrong → Type 0
IsWrongCopy look rev copied drawn v from w = MetAt look from.rev from.path (Err w) ⊎ ((IsCopy look rev copied drawn v from → ⊥) × (w ≡ damaged (offset_of v.id.place) what.CopyId))

-- ---- copy parts

-- the first revision whose node-revisions may have the part
abbrev pub first_rev : Part → ℕ
first_rev (parts.New n) = 0
first_rev (parts.Old n) = 0
first_rev (parts.Made n rev) = rev

-- u is v, or before it in its chain of predecessors
abbrev pub IsAtOrBehind : RevisionBytes → NodeRev → NodeRev → Type 0
IsAtOrBehind look v u = (u ≡ v) ⊎ IsBehind look v u

-- some node-revision at v or behind it has the part; or none has it that is of no earlier revision than the part
abbrev pub HasPartBehind : RevisionBytes → Part → NodeRev → Bool → Type 0
HasPartBehind look part v true = (u : NodeRev) × IsAtOrBehind look v u × (u.id.copy ≡ part)
HasPartBehind look part v false = (u : NodeRev) → IsAtOrBehind look v u → first_rev part ≤ own_rev u → u.id.copy ≢ part

-- one before v has it; or none that is of no earlier revision than the part
abbrev pub HasPartBefore : RevisionBytes → Part → NodeRev → Bool → Type 0
HasPartBefore look part v true = (u : NodeRev) × IsBehind look v u × (u.id.copy ≡ part)
HasPartBefore look part v false = (u : NodeRev) → IsBehind look v u → first_rev part ≤ own_rev u → u.id.copy ≢ part

-- the copy part is the directory's, or one before it in its chain has it
pub data IsPartOld (look : RevisionBytes) (dir v : NodeRev) : Type 0 where
  Directory : v.id.copy ≡ dir.id.copy → IsPartOld look dir v
  Before : (u : NodeRev) → IsBehind look v u → v.id.copy ≡ u.id.copy → IsPartOld look dir v

-- it is neither, so far as revisions may have the part
pub record IsPartNew (look : RevisionBytes) (dir v : NodeRev) : Type 0 where
  pub other : v.id.copy ≢ dir.id.copy
  pub before : (u : NodeRev) → IsBehind look v u → first_rev v.id.copy ≤ own_rev u → v.id.copy ≢ u.id.copy

-- an old part is kept, and a new one is drawn
abbrev pub TakesPart : RevisionBytes → ℕ → List Part → NodeRev → NodeRev → List Part → List Part → Type 0
TakesPart look rev copied dir v before drawn = (IsPartOld look dir v × (drawn ≡ before)) ⊎ (IsPartNew look dir v × MayDraw rev copied v.id.copy × (drawn ≡ before ++ v.id.copy ∷ []))

-- its chain breaks, or it has a new part that may not be drawn
abbrev pub IsWrongPart : RevisionBytes → ℕ → List Part → NodeRev → NodeRev → Wrong → Type 0
IsWrongPart look rev copied dir v w = Chain look v (Err w) ⊎ (IsPartNew look dir v × (MayDraw rev copied v.id.copy → ⊥) × (w ≡ damaged (offset_of v.id.place) what.CopyId))
