-- What stands at the places of paths, and what is told of a path by it.
use Rattle.std.specs.Prelude.{◌≡◌, ℕ, List, Option, Some, None}
use Rattle.std.specs.Map.{update}
use Rattle.std.specs.Str.{bytes_eq}
use Rattle.fsfs_disk.specs.Trace.{Trace}
use Rattle.fsfs_folders.specs.System.CallRecord.{CallRecord}
use Rattle.fsfs_folders.specs.Standing.{told}

-- what a place has; none where there is no place, or it is empty
abbrev pub held_in : {A : Type 0} → Option (Option A) → Option A
held_in None = None
held_in (Some place) = place

-- the place of this path, and no other, has become this one
abbrev pub Sets : {A : Type 0} → (List ℕ → Option (Option A)) → (List ℕ → Option (Option A)) → List ℕ → Option A → Type 0
Sets old new path place = (p : List ℕ) → new p ≡ update bytes_eq old path (Some place) p

-- What is told of a path: what the calls tell at its place; where it has none, what those are to begin with that will be asked for;
-- nothing while they are out.
abbrev pub told_at : {A : Type 0} → (A → Option CallRecord) → Option (Option A) → Option CallRecord → Option Trace
told_at record_of None first = told first
told_at record_of (Some None) first = None
told_at record_of (Some (Some held)) first = told (record_of held)
