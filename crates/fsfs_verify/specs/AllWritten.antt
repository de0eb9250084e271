-- The parts that the node-revisions of the revisions before one brought up, and what a check holds of them from one revision to the
-- next.
use Rattle.std.specs.Prelude.{◌≡◌, ◌<◌, ◌⊎◌, ℕ, List, Contains, Some, None}
use Rattle.fsfs_base.specs.Paths.{PathName, Path}
use Rattle.fsfs_revision.specs.Told.{RevisionBytes}
use Rattle.fsfs_noderev.specs.declared.node_id.Part.{Part}
use Rattle.fsfs_noderev.specs.declared.node_rev.CopySource.{CopySource}
use Rattle.fsfs_noderev.specs.declared.node_rev.NodeRev.{NodeRev}
use Rattle.fsfs_verify.specs.declared.parts.Parts.{Parts}
use Rattle.fsfs_verify.specs.Brought.{Brought}
use Rattle.fsfs_verify.specs.Copies.{IsPartOld, IsPartNew}
use Rattle.fsfs_sound.specs.Written.{IsNewAt, IsNewChild}

-- one of the revisions before n wrote it
pub record IsBefore (look : RevisionBytes) (n : ℕ) (v : NodeRev) : Type 0 where
  pub rev : ℕ
  pub path : Path
  pub before : rev < n
  pub new : IsNewAt look rev path v

-- one of them wrote it, and it is no copy, in a directory that it wrote
pub record IsChildBefore (look : RevisionBytes) (n : ℕ) (dir v : NodeRev) : Type 0 where
  pub rev : ℕ
  pub path : Path
  pub name : PathName
  pub before : rev < n
  pub new : IsNewChild look rev path name dir v
  pub no_copy : v.copy_from ≡ None

-- the lists have the parts of these node-revisions, and no others
pub record AreBrought (look : RevisionBytes) (n : ℕ) (nodes copied_parts drawings : List Part) : Type 0 where
  pub begins : (v : NodeRev) → IsBefore look n v → v.predecessor ≡ None → Contains nodes v.id.node
  pub begun : (part : Part) → Contains nodes part → (v : NodeRev) × IsBefore look n v × (v.predecessor ≡ None) × (v.id.node ≡ part)
  pub copies : (v : NodeRev) (from : CopySource) → IsBefore look n v → v.copy_from ≡ Some from → Contains copied_parts v.id.copy
  pub copied : (part : Part) → Contains copied_parts part → (v : NodeRev) × (from : CopySource) × IsBefore look n v × (v.copy_from ≡ Some from) × (v.id.copy ≡ part)
  pub draws : (dir v : NodeRev) → IsChildBefore look n dir v → IsPartOld look dir v ⊎ Contains drawings v.id.copy
  pub drawn : (part : Part) → Contains drawings part → (dir v : NodeRev) × IsChildBefore look n dir v × IsPartNew look dir v × (v.id.copy ≡ part)
  pub apart : (part : Part) → Contains copied_parts part → Contains drawings part → ⊥

-- a check holds the parts of all that was written before revision n, as the parts of node-revisions of this revision go
pub record HoldsTree (look : RevisionBytes) (n rev : ℕ) (parts : Parts) : Type 0 where
  pub begun : List Part
  pub copied : List Part
  pub drawn : List Part
  pub held : Brought rev parts begun copied drawn
  pub all : AreBrought look n begun copied drawn

-- before revision n
abbrev pub HoldsWritten : RevisionBytes → ℕ → Parts → Type 0
HoldsWritten look n parts = HoldsTree look n n parts
