-- The paths that had files so far.
use Rattle.std.specs.Prelude.{ℕ, List, [], ◌∷◌}
use Rattle.fsfs_base.specs.Files.{NamedFile}
use Rattle.fsfs_folders.specs.System.CallRecord.{Create, Take, Rename, Call, Named, Beginning}

abbrev pub file_paths : List NamedFile → List (List ℕ)
file_paths [] = []
file_paths (file ∷ files) = file.0 ∷ file_paths files

-- each path that had a file at the beginning or got one since
abbrev pub named_paths : Beginning → List Call → List (List ℕ)
named_paths first [] = file_paths first.files
named_paths first (Named (Create path) ∷ calls) = path ∷ named_paths first calls
named_paths first (Named (Take path contents) ∷ calls) = path ∷ named_paths first calls
named_paths first (Named (Rename from to) ∷ calls) = to ∷ named_paths first calls
named_paths first (call ∷ calls) = named_paths first calls
