-- The paths at which something may stand after some calls.
use Rattle.std.specs.Prelude.{ℕ, List, [], ◌∷◌, ◌++◌, Option, Some, None}
use Rattle.fsfs_folders.specs.System.CallRecord.{Beginning, Call, Named, Append, SyncFile, FailSync, SyncFolder, Firmed, MakeFolder, DropFolder, Create, Take, Rename, Remove}
use Rattle.fsfs_folders.specs.System.Named.{file_paths}

-- where a call makes something stand
abbrev pub place_of : Call → Option (List ℕ)
place_of (Named (MakeFolder path)) = Some path
place_of (Named (DropFolder path)) = None
place_of (Named (Create path)) = Some path
place_of (Named (Take path contents)) = Some path
place_of (Named (Rename from to)) = Some to
place_of (Named (Remove path)) = None
place_of (Append number bytes) = None
place_of (SyncFile number) = None
place_of (FailSync number) = None
place_of (SyncFolder path) = None
place_of Firmed = None

abbrev pub with_place : Option (List ℕ) → List (List ℕ) → List (List ℕ)
with_place None paths = paths
with_place (Some path) paths = path ∷ paths

abbrev pub places_in : List Call → List (List ℕ)
places_in [] = []
places_in (call ∷ calls) = with_place (place_of call) (places_in calls)

abbrev pub paths_of : Beginning → List Call → List (List ℕ)
paths_of first calls = first.folders ++ file_paths first.files ++ places_in calls
