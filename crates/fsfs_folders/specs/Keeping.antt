-- What the calls of a disk keep to. So the crash model of disks holds of it, over the crash model of the system.
use Rattle.std.specs.Prelude.{ℕ, ◌^◌, List, [], ◌∷◌, length, Bool, true, false, not, ◌==◌, nat_le, ◌&&◌, ◌||◌, Option, Some, None, is_some}
use Rattle.fsfs_base.specs.Files.{NamedFile, same_text}
use Rattle.fsfs_folders.specs.System.Paths.{has_path, is_below}
use Rattle.fsfs_folders.specs.System.CallRecord.{Beginning, CallRecord, Contents, MakeFolder, DropFolder, Create, Take, Rename, Remove, Call, Named, Append, SyncFile, FailSync, SyncFolder, Firmed, Standing, is_reachable, file_count, names_after, contents_after}
use Rattle.fsfs_folders.specs.System.Named.{named_paths}
use Rattle.fsfs_folders.specs.System.Remains.{of_names, of_folders, are_firm}
use Rattle.fsfs_folders.specs.Told.{is_apart, is_in_bench}

-- no name has changed since this file was made
abbrev pub is_newest : Beginning → List Call → ℕ → Bool
is_newest first [] number = false
is_newest first (Named (Create path) ∷ calls) number = number == file_count first calls
is_newest first (Named change ∷ calls) number = false
is_newest first (call ∷ calls) number = is_newest first calls number

-- all bytes of a file are firm, and there are at most 2^62
abbrev pub is_whole : Contents → Bool
is_whole file = (file.firm == length file.bytes) && nat_le (length file.bytes) (2 ^ 62)

abbrev pub is_whole_file : Beginning → List Call → Option ℕ → Bool
is_whole_file first calls None = true
is_whole_file first calls (Some n) = is_whole (contents_after first calls n)

-- all changes of names are firm, where these folders were synced after them; those of benches' folders are of no concern
abbrev pub are_names_firm : List (List ℕ) → List Call → Bool
are_names_firm synced calls = are_firm (of_names is_in_bench) synced calls

-- the same of the changes of folders
abbrev pub are_folders_firm : List Call → Bool
are_folders_firm calls = are_firm (of_folders is_in_bench) [] calls

-- a path may get a file of the repository: its folders are there, and firm
abbrev pub is_place : Beginning → List Call → List ℕ → Bool
is_place first calls path = not (is_apart path) && (are_folders_firm calls && is_reachable (names_after first calls).folders path)

-- a file gets a name of the repository, and is whole if it stood apart
abbrev pub is_naming : Beginning → List Call → List ℕ → List ℕ → Bool
is_naming first calls from to =
    is_place first calls to && (is_some ((names_after first calls).files from) && (not (is_apart from) || is_whole_file first calls ((names_after first calls).files from)))

-- none of these paths that has a file is below a folder
abbrev pub are_none_below : Standing → List ℕ → List (List ℕ) → Bool
are_none_below names folder [] = true
are_none_below names folder (q ∷ qs) = not (is_below folder q && is_some (names.files q)) && are_none_below names folder qs

-- A folder may go: it is that of a bench, or no file is in it and all names are firm.
abbrev pub is_dropping : Beginning → List Call → List ℕ → Bool
is_dropping first calls path =
    not (same_text [] path) && (is_in_bench path || (are_names_firm [] calls && are_none_below (names_after first calls) path (named_paths first calls)))

-- what is asked of each call: new files are made apart, written before they have a name, and named once they are whole
abbrev pub may_call : Beginning → List Call → Call → Bool
may_call first calls (Named (MakeFolder path)) = true
may_call first calls (Named (DropFolder path)) = is_dropping first calls path
may_call first calls (Named (Create path)) = is_apart path
may_call first calls (Named (Take path contents)) = is_place first calls path && is_whole contents
may_call first calls (Named (Rename from to)) = is_naming first calls from to
may_call first calls (Named (Remove path)) = true
may_call first calls (Append number bytes) = is_newest first calls number
may_call first calls (SyncFile number) = true
may_call first calls (FailSync number) = true
may_call first calls (SyncFolder folder) = true
may_call first calls Firmed = are_names_firm [] calls

-- each file of the repository has its folders, and at most 2^62 bytes
abbrev pub are_rooted : List (List ℕ) → List NamedFile → Bool
are_rooted folders [] = true
are_rooted folders (file ∷ files) = (is_apart file.0 || (is_reachable (has_path folders) file.0 && nat_le (length file.1) (2 ^ 62))) && are_rooted folders files

-- at the beginning each file was such, and each call was one of these
abbrev pub keeps : Beginning → List Call → Bool
keeps first [] = are_rooted first.folders first.files
keeps first (call ∷ calls) = keeps first calls && may_call first calls call

-- What a disk knows, where the calls tell: they keep to this; all names are firm once the folders are synced that it has noted; where
-- it says that it is settled, its folders are firm.
abbrev pub is_sound : Option CallRecord → List (List ℕ) → Bool → Bool
is_sound None changed settled = true
is_sound (Some r) changed settled = keeps r.first r.calls && (are_names_firm changed r.calls && (not settled || are_folders_firm r.calls))
