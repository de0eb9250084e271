-- What a disk over the calls of the system knows between two of its own calls.
use Rattle.std.specs.Prelude.{◌≡◌, ◌⊎◌, ℕ, List, [], length, true, Option, Some, None, option_map}
use Rattle.fsfs_disk.specs.Benches.{bytes_on}
use Rattle.fsfs_disk.specs.Trace.{Trace, Adopt, Performs}
use Rattle.fsfs_folders.specs.System.Paths.{has_path, folder_of}
use Rattle.fsfs_folders.specs.System.CallRecord.{CallRecord, names_now, contents_now}
use Rattle.fsfs_folders.specs.System.Remains.{AreWithin}
use Rattle.fsfs_folders.specs.Told.{trace_of, bytes_at}
use Rattle.fsfs_folders.specs.Keeping.{is_whole}
use Rattle.fsfs_folders.specs.BenchFiles.{bench_told, Sets}

-- what the disk tells
abbrev pub told : Option CallRecord → Option Trace
told calls = option_map trace_of calls

-- the folder of this path is noted, and all that were
abbrev pub IsNoted : List (List ℕ) → List (List ℕ) → List ℕ → Type 0
IsNoted old new path = (has_path new (folder_of path) ≡ true) × AreWithin old new

-- these bytes stand under a path, firm
pub record IsWritten (r : CallRecord) (path bytes : List ℕ) : Type 0 where
  pub number : ℕ
  pub has : (names_now r).files path ≡ Some number
  pub whole : (contents_now r number).bytes ≡ bytes
  pub firm : (contents_now r number).firm ≡ length (contents_now r number).bytes

-- a file that may get a name of the repository stands under a path
abbrev pub IsWholeAt : CallRecord → List ℕ → Type 0
IsWholeAt r path = (number : ℕ) × ((names_now r).files path ≡ Some number) × (is_whole (contents_now r number) ≡ true)

-- the bytes that stand under a path
abbrev pub bytes_under : Option CallRecord → List ℕ → List ℕ
bytes_under None path = []
bytes_under (Some r) path = bytes_at r.first r.calls path

-- a file went from a bench to a name of the repository
abbrev pub Adopts : List ℕ → List ℕ → Option CallRecord → Option CallRecord → Option CallRecord → Option CallRecord → Type 0
Adopts file to old part new left = Performs (Adopt to (bytes_on (bench_told part) file)) (told old) (told new) × Sets file (λ r. None) part left

-- a call that failed: it didn't, or it did
abbrev pub FailsToTake : List ℕ → List ℕ → Option CallRecord → Option CallRecord → Option CallRecord → Option CallRecord → Type 0
FailsToTake file to old part new left = ((told new ≡ told old) × (left ≡ part)) ⊎ Adopts file to old part new left
