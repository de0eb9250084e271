-- What a disk tells that stands on the calls of the system: the files of its repository are those names that aren't apart, its labels
-- are the folders of benches, and its operations are read off the record of calls.
use Rattle.std.specs.Prelude.{◌≡◌, ℕ, List, [], ◌∷◌, Bool, true, false, not, nat_eq, ◌||◌, ◌&&◌, if◌then◌else◌, Option, Some, None, option_map, unwrap_or, codes}
use Rattle.std.specs.List.{starts_with, ends_with}
use Rattle.std.specs.FinMap.{get, insert, empty}
use Rattle.fsfs_base.specs.Files.{Files, NamedFile, same_text}
use Rattle.fsfs_disk.specs.Labels.{Label, with_label}
use Rattle.fsfs_disk.specs.Trace.{NameChange, Operation, Done, Trace, Put, Adopt, Rename, Remove, FirmNames, KeepLabel, DropLabel, IsImage}
use Rattle.fsfs_folders.specs.System.CallRecord as system
use Rattle.fsfs_folders.specs.System.Remains.{IsLeft}
use Rattle.fsfs_folders.specs.System.CallRecord.{Beginning, CallRecord, Call, Named, Firmed, Standing, is_reachable, names_after, contents_after}
use Rattle.fsfs_folders.specs.LabelPaths.{label_at}

-- a file is written under such a name first
abbrev pub is_beside : List ℕ → Bool
is_beside path = ends_with nat_eq path (codes ".beside")

-- where the folders of benches are, and what stands in them; prototype revision files too
unfoldable pub is_in_bench : List ℕ → Bool
is_in_bench path = starts_with nat_eq path (codes "db/transactions/") || (starts_with nat_eq path (codes "db/txn-protorevs/") || (starts_with nat_eq path (codes "db/pack-") || starts_with nat_eq path (codes "db/copy.bench")))

-- no file of the repository has such a name
unfoldable pub is_apart : List ℕ → Bool
is_apart path = is_beside path || is_in_bench path

-- a folder of the repository that isn't the whole of it
abbrev pub is_inner_folder : List ℕ → Bool
is_inner_folder path = not (same_text [] path) && not (is_in_bench path)

-- the repository's file of a name, by the bytes of each file
abbrev pub shown : (ℕ → List ℕ) → Standing → List ℕ → Option (List ℕ)
shown bytes names q = if is_apart q then None else option_map bytes (names.files q)

-- these are the files of the repository
abbrev pub AreShown : (ℕ → List ℕ) → Standing → Files → Type 0
AreShown bytes names m = (q : List ℕ) → get m q ≡ shown bytes names q

abbrev pub bytes_after : Beginning → List Call → ℕ → List ℕ
bytes_after first calls n = (contents_after first calls n).bytes

-- the bytes of the file with a path
abbrev pub bytes_at : Beginning → List Call → List ℕ → List ℕ
bytes_at first calls path = unwrap_or (option_map (bytes_after first calls) ((names_after first calls).files path)) []

-- the repository's files at the beginning
abbrev pub files_of : List NamedFile → Files
files_of [] = empty
files_of (file ∷ files) = if is_apart file.0 then files_of files else insert (files_of files) file.0 file.1

-- and its labels
abbrev pub with_folder : Option Label → List Label → List Label
with_folder None labels = labels
with_folder (Some label) labels = with_label label labels

abbrev pub labels_of : List (List ℕ) → List Label
labels_of [] = []
labels_of (folder ∷ folders) = with_folder (label_at folder) (labels_of folders)

-- a change of a label, where a folder is that of a bench
abbrev pub on_label : Option Label → (Label → NameChange) → List Operation → List Operation
on_label None change operations = operations
on_label (Some label) change operations = Done (change label) ∷ operations

-- The operations: a folder of a bench is made or dropped, a file of a bench gets a name here, a file that was written beside gets its
-- name, one gets another name, a name is taken away, all names are firm.
abbrev pub operations_of : Beginning → List Call → List Operation
operations_of first [] = []
operations_of first (Named (system.MakeFolder path) ∷ calls) = on_label (label_at path) KeepLabel (operations_of first calls)
operations_of first (Named (system.DropFolder path) ∷ calls) = on_label (label_at path) DropLabel (operations_of first calls)
operations_of first (Named (system.Take path contents) ∷ calls) = Done (Adopt path contents.bytes) ∷ operations_of first calls
operations_of first (Named (system.Rename from to) ∷ calls) = Done (if is_apart from then Put to (bytes_at first calls from) else Rename from to) ∷ operations_of first calls
operations_of first (Named (system.Remove path) ∷ calls) = if is_apart path then operations_of first calls else Done (Remove path) ∷ operations_of first calls
operations_of first (Firmed ∷ calls) = Done FirmNames ∷ operations_of first calls
operations_of first (call ∷ calls) = operations_of first calls

abbrev pub trace_of : CallRecord → Trace
trace_of r = record { first = files_of r.first.files; labels = labels_of r.first.folders; operations = operations_of r.first r.calls }

-- What is left after a crash shows these files of the repository: those whose folders are all there.
pub record ShowsFiles (names : Standing) (bytes : ℕ → List ℕ) (m : Files) : Type 0 where
  pub there : (q : List ℕ) (n : ℕ) → is_apart q ≡ false → names.files q ≡ Some n → is_reachable names.folders q ≡ true → get m q ≡ Some (bytes n)
  pub only : (q file : List ℕ) → get m q ≡ Some file → (is_apart q ≡ false) × ((n : ℕ) × (names.files q ≡ Some n) × (is_reachable names.folders q ≡ true))

-- whatever a crash may leave of names and bytes shows one of the images that are told
abbrev pub LeavesImages : CallRecord → Type 0
LeavesImages r = (names : Standing) (bytes : ℕ → List ℕ) (m : Files) → IsLeft r names bytes → ShowsFiles names bytes m → IsImage (trace_of r).first (trace_of r).operations m
