-- The image of a crash that leaves the changes that are picked.
use Rattle.std.specs.Prelude.{ℕ, List, [], ◌∷◌, length, drop, Bool, true, false, unwrap_or, slice_get, if◌then◌else◌}
use Rattle.std.specs.FinMap as map
use Rattle.fsfs_base.specs.Files.{Files, renamed}
use Rattle.fsfs_disk.specs.Labels.{Label}
use Rattle.fsfs_disk.specs.Trace.{NameChange, Operation, files_after, changed}
use Rattle.fsfs_disk.specs.Trace.NameChange.{Rename, FirmNames, KeepLabel, DropLabel}
use Rattle.fsfs_disk.specs.Trace.Operation.{Done, Attempted}

-- whether an operation is picked, by the number of operations before it
abbrev pub is_picked : List Bool → ℕ → Bool
is_picked pick n = unwrap_or (slice_get pick n) false

-- what is left after a change: the change over what was left before it, or nothing of it; `now` are the files that it met
abbrev pub left_after : Bool → NameChange → Files → Files → Files
left_after picked FirmNames now left = now
left_after picked (KeepLabel l) now left = left
left_after picked (DropLabel l) now left = left
left_after true (Rename from to) now left = renamed left from to (map.get now from)
left_after true change now left = changed change left
left_after false change now left = left

abbrev pub picked_image : List Bool → Files → List Operation → Files
picked_image pick first [] = first
picked_image pick first (Attempted change ∷ operations) = picked_image pick first operations
picked_image pick first (Done change ∷ operations) =
    left_after (is_picked pick (length operations)) change (files_after first operations) (picked_image pick first operations)

-- the labels that are picked, in order
abbrev pub picked_labels : List Bool → List Label → List Label
picked_labels pick [] = []
picked_labels pick (l ∷ ls) = if is_picked pick 0 then l ∷ picked_labels (drop 1 pick) ls else picked_labels (drop 1 pick) ls
