-- That a copy part tells no revision behind that of a node-revision which has it.
use Rattle.std.specs.Prelude.{◌≤◌, ◌<◌, ℕ}
use Rattle.fsfs_noderev.specs.declared.node_id.Part.{Part}
use Rattle.fsfs_noderev.specs.declared.node_id.Part.TheVariants as parts
use Rattle.fsfs_noderev.specs.declared.node_rev.NodeRev.{NodeRev}
use Rattle.fsfs_revision.specs.Told.{RevisionBytes}
use Rattle.fsfs_revision.specs.Shows.Chains.{own_rev}
use Rattle.fsfs_revision.specs.Shows.IdRules.{IsOf, IsBehind}
use Rattle.fsfs_sound.specs.Revisions.{IsSoundTree}

-- the part tells this revision or an earlier one, if any
abbrev pub IsUpTo : ℕ → Part → Type 0
IsUpTo rev (parts.Made n made) = made ≤ rev
IsUpTo rev (parts.Old n) = Unit {0}
IsUpTo rev (parts.New n) = Unit {0}

-- where the trees up to top are sound, the copy part of what stands in them is not ahead of it; so none behind it is of a later
-- revision than itself
abbrev pub PartsAreNotAhead : Type 0
PartsAreNotAhead = (look : RevisionBytes) (top : ℕ) → ((r : ℕ) → r ≤ top → IsSoundTree look r) → (v : NodeRev) → IsOf look top v → IsUpTo (own_rev v) v.id.copy

abbrev pub WhatIsBehindIsEarlier : Type 0
WhatIsBehindIsEarlier = (look : RevisionBytes) (top : ℕ) → ((r : ℕ) → r ≤ top → IsSoundTree look r) → (v u : NodeRev) → IsOf look top v → IsBehind look v u → (own_rev u < own_rev v) × IsOf look top u
