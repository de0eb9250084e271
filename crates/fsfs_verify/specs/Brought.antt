-- The parts of ids that node-revisions brought up, one behind another.
use Rattle.std.specs.Prelude.{◌≡◌, ◌≢◌, ◌≤◌, ◌⊎◌, ◌↔◌, ℕ, true, List, Contains}
use Rattle.fsfs_noderev.specs.Ids.{part_value, Old}
use Rattle.fsfs_noderev.specs.declared.node_id.Part.{Part}
use Rattle.fsfs_revision.specs.Nodes.{is_lasting_part}
use Rattle.fsfs_revision.specs.Shows.IdRules.{HasSuffix}
use Rattle.fsfs_verify.specs.declared.numbers.PartSet.{PartSet}
use Rattle.fsfs_verify.specs.declared.parts.Parts.{Parts}
use Rattle.fsfs_verify.specs.PartSets.{holds}

-- of the parts that a node-revision of this revision may bring up, the set holds those of the list; and none of the list tells a later
-- revision
pub record HoldsList (rev : ℕ) (set : PartSet) (parts : List Part) : Type 0 where
  pub held : (part : Part) → is_lasting_part part ≡ true → HasSuffix rev part → (holds set part ≡ true) ↔ Contains parts part
  pub up_to : (part : Part) → Contains parts part → (s : ℕ) × (s ≤ rev) × HasSuffix s part

-- node parts of what begins, copy parts of copies, and copy parts that were drawn
pub record Brought (rev : ℕ) (parts : Parts) (nodes copies drawings : List Part) : Type 0 where
  pub begun : HoldsList rev parts.begun nodes
  pub copied : HoldsList rev parts.copied copies
  pub drawn : HoldsList rev parts.drawn drawings

-- ---- a part that a node-revision of this revision brings up, behind those

pub record MayBegin (rev : ℕ) (begun : List Part) (part : Part) : Type 0 where
  pub suffix : HasSuffix rev part
  pub new : Contains begun part → ⊥

pub record MayCopy (rev : ℕ) (copied drawn : List Part) (part : Part) : Type 0 where
  pub not_first : part_value part ≢ Old 0
  pub suffix : HasSuffix rev part
  pub new : Contains copied part → ⊥
  pub not_drawn : Contains drawn part → ⊥

pub record MayDraw (rev : ℕ) (copied : List Part) (part : Part) : Type 0 where
  pub not_first : part_value part ≢ Old 0
  pub suffix : HasSuffix rev part
  pub no_copy : Contains copied part → ⊥
