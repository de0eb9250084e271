-- What a crash leaves of the calls in memory, as it is picked.
use Rattle.std.specs.Prelude.{◌≡◌, ℕ, List, [], ◌∷◌, take, drop, Bool, true, false, cond, ◌||◌, ◌&&◌, Option, Some, None, option_map}
use Rattle.fsfs_base.specs.Files.{NamedFile}
use Rattle.fsfs_folders.specs.System.CallRecord.{Beginning, CallRecord, Call, Named, Append, SyncFile, FailSync, SyncFolder, Firmed, Standing, Contents, first_names, file_count, renamed_by, names_after, contents_after, names_now, contents_now, is_reachable}
use Rattle.fsfs_folders.specs.System.Remains.{are_synced, folders_of}

-- the first of the picks; behind them nothing is picked
abbrev pub first_pick : List Bool → Bool
first_pick [] = false
first_pick (pick ∷ picks) = pick

-- whether a call's change of names is left: where it is picked, or its folders were synced since
abbrev pub is_kept : List (List ℕ) → Call → Bool → Bool
is_kept synced (Named change) pick = pick || are_synced synced (folders_of change)
is_kept synced (Append number bytes) pick = true
is_kept synced (SyncFile number) pick = true
is_kept synced (FailSync number) pick = true
is_kept synced (SyncFolder folder) pick = true
is_kept synced Firmed pick = true

-- the folders that were synced after the calls before this one
abbrev pub synced_with : Call → List (List ℕ) → List (List ℕ)
synced_with (Named change) synced = synced
synced_with (Append number bytes) synced = synced
synced_with (SyncFile number) synced = synced
synced_with (FailSync number) synced = synced
synced_with (SyncFolder folder) synced = folder ∷ synced
synced_with Firmed synced = synced

-- the same of each call, the newest first; the picks are in that order too
abbrev pub kept_by : List (List ℕ) → List Call → List Bool → List Bool
kept_by synced [] pick = []
kept_by synced (call ∷ calls) pick = is_kept synced call (first_pick pick) ∷ kept_by (synced_with call synced) calls (drop 1 pick)

-- these names, or those that stood before
abbrev pub chosen : Bool → Standing → Standing → Standing
chosen kept new was = record { folders = λ q. cond kept (new.folders q) (was.folders q); files = λ q. cond kept (new.files q) (was.files q) }

-- what a call makes of names that stand as `was`, where its change is kept or isn't; `now` are the names that it met
abbrev pub left_by : Bool → Call → ℕ → Standing → Standing → Standing
left_by kept (Named change) number now was = chosen kept (renamed_by change number now was) was
left_by kept (Append to bytes) number now was = was
left_by kept (SyncFile synced) number now was = was
left_by kept (FailSync failed) number now was = was
left_by kept (SyncFolder folder) number now was = was
left_by kept Firmed number now was = was

-- the names that are left where these changes are kept
abbrev pub left_names : Beginning → List Call → List Bool → Standing
left_names first [] kept = first_names first
left_names first (call ∷ calls) kept = left_by (first_pick kept) call (file_count first calls) (names_after first calls) (left_names first calls (drop 1 kept))

-- the bytes of a file that are left: all, or the firm ones
abbrev pub left_bytes : Bool → Contents → List ℕ
left_bytes all file = cond all file.bytes (take file.firm file.bytes)

abbrev pub bytes_of : Bool → Beginning → List Call → ℕ → List ℕ
bytes_of all first calls number = left_bytes all (contents_after first calls number)

-- what is left as it is picked: the names, and the bytes of each file
abbrev pub picked_names : List Bool → CallRecord → Standing
picked_names pick r = left_names r.first r.calls (kept_by [] r.calls pick)

abbrev pub picked_bytes : Bool → CallRecord → ℕ → List ℕ
picked_bytes all r = bytes_of all r.first r.calls

-- a folder is found where each folder above it is there
abbrev pub is_found : Standing → List ℕ → Bool
is_found names q = is_reachable names.folders q && names.folders q

-- the bytes of the file that is found at a path
abbrev pub bytes_found : Standing → (ℕ → List ℕ) → List ℕ → Option (List ℕ)
bytes_found names bytes q = cond (is_reachable names.folders q) (option_map bytes (names.files q)) None

-- a record without calls, of what is found where these names and bytes are left
pub record IsFound (names : Standing) (bytes : ℕ → List ℕ) (found : CallRecord) : Type 0 where
  pub calls : found.calls ≡ []
  pub folders : (q : List ℕ) → (names_now found).folders q ≡ is_found names q
  pub files : (q : List ℕ) → option_map (λ n. (contents_now found n).bytes) ((names_now found).files q) ≡ bytes_found names bytes q

-- ---- listings of what is found

abbrev pub paths_such : (List ℕ → Bool) → List (List ℕ) → List (List ℕ)
paths_such such [] = []
paths_such such (p ∷ ps) = cond (such p) (p ∷ paths_such such ps) (paths_such such ps)

abbrev pub with_file : List ℕ → Option (List ℕ) → List NamedFile → List NamedFile
with_file p None files = files
with_file p (Some bytes) files = (p, bytes) ∷ files

abbrev pub files_such : (List ℕ → Option (List ℕ)) → List (List ℕ) → List NamedFile
files_such found [] = []
files_such found (p ∷ ps) = with_file p (found p) (files_such found ps)
