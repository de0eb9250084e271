-- The walk of a merge by ids: where it goes down, where it stops, and whose entry it takes.
--
-- It goes down the base, the head and the transaction side by side, from their roots. Of an entry it sees no more than whether each of
-- the three has it, whether an id is the base's, and of three directories whether both sides go on from the base's. (svn_fs.h,
-- svn_fs_merge; what goes on is this project's profile.)
use Rattle.std.specs.Prelude.{Bool, true, false, ◌&&◌, ◌||◌, not, [], ◌∷◌, if◌then◌else◌}
use Rattle.fsfs_base.specs.Paths.{Path}
use Rattle.fsfs_model.specs.Flat.Landing.{reached}
pub use Rattle.fsfs_merge.specs.declared.sight.Sight.{Sight}

-- the roots of the three, which are always merged
abbrev pub roots : Bool → Sight
roots same_props = record { in_base = true; in_head = true; in_own = true; head_same = false; own_same = false; goes_on = true; same_props = same_props }

-- the three directories are merged: the walk goes down
abbrev pub merges : Sight → Bool
merges s = s.in_base && not s.head_same && not s.own_same && s.goes_on

-- the walk stops for a clash
abbrev pub is_stopped : Sight → Bool
is_stopped s = if s.in_base then not s.head_same && not s.own_same && not (s.goes_on && s.same_props) else s.in_head && s.in_own

-- the transaction's entry or absence stays; else the head's is taken
abbrev pub stays : Sight → Bool
stays s = if s.in_base then s.head_same || (not s.own_same && s.goes_on) else s.in_own

abbrev pub down : (Path → Sight) → Path → Bool
down see p = merges (see p)

-- the walk comes to the path and stops there
abbrev pub clashes_by_ids : (Path → Sight) → Path → Bool
clashes_by_ids see p = reached (down see) p && is_stopped (see p)

-- what stands at the path after the merge is the transaction's
abbrev pub is_own : (Path → Sight) → Path → Bool
is_own see [] = stays (see [])
is_own see (x ∷ p) = if merges (see []) then is_own (λ q. see (x ∷ q)) p else stays (see [])

-- what stands at each path after the merge, of two trees of whatever kind
abbrev pub merged : {X : Type 0} → (Path → Sight) → (Path → X) → (Path → X) → Path → X
merged see head own p = if is_own see p then own p else head p
