-- The course of a creation on a disk: what it has done at each place, and what a crash may leave of it.
use Rattle.std.specs.Prelude.{◌≡◌, ◌⊎◌, ℕ, List, [], ◌∷◌, ◌++◌, Option, None, IfSome, IsSome, option_map}
use Rattle.std.specs.FinMap.{get}
use Rattle.fsfs_base.specs.Files.{Files, NamedFile}
use Rattle.fsfs_base.specs.Fields.Dates.{IsDateAt}
use Rattle.fsfs_disk.specs.Trace.{Trace, add_operation, files_now, file_at, FailsAt, FailsToPut}
use Rattle.fsfs_disk.specs.Trace.Operation.{Done}
use Rattle.fsfs_disk.specs.Trace.NameChange.{Put, Rename, FirmNames}
use Rattle.fsfs_layout.specs.FileNames.{only_name}
use Rattle.fsfs_layout.specs.declared.only_file.OnlyFile.TheVariants.{Format, FormatNext}
use Rattle.fsfs_layout.specs.CreatedFiles.{unpublished_files, format_text, created_over}
use Rattle.fsfs_base.specs.declared.places.create_fault.CreateFault.{CreateFault}
use Rattle.fsfs_base.specs.declared.places.create_fault.CreateFault.TheVariants.{AlreadyRepo, DiskFault, Memory}
use Rattle.fsfs_base.specs.declared.places.place.DiskPlace.{DiskPlace}
use Rattle.fsfs_base.specs.declared.places.place.DiskPlace.TheVariants.{Read, Create}
use Rattle.fsfs_base.specs.declared.places.place.CreatePlace.{CreatePlace}
use Rattle.fsfs_base.specs.declared.places.place.CreatePlace.TheVariants as place

-- these files were put, in order
abbrev pub after_puts : List NamedFile → Trace → Trace
after_puts [] t = t
after_puts (file ∷ files) t = after_puts files (add_operation (Done (Put file.0 file.1)) t)

-- and their names were made firm
abbrev pub after_firm : List NamedFile → Trace → Trace
after_firm files t = add_operation (Done FirmNames) (after_puts files t)

-- db/format was written under its other name
abbrev pub after_next : List ℕ → Trace → Trace
after_next format t = add_operation (Done (Put (only_name FormatNext) format)) t

-- and got its name
abbrev pub after_rename : List ℕ → Trace → Trace
after_rename format t = add_operation (Done (Rename (only_name FormatNext) (only_name Format))) (after_next format t)

-- and that name was made firm
abbrev pub after_publishing : List ℕ → Trace → Trace
after_publishing format t = add_operation (Done FirmNames) (after_rename format t)

-- all of a creation
abbrev pub after_creation : List NamedFile → List ℕ → Trace → Trace
after_creation files format t = after_publishing format (after_firm files t)

-- a put of one of the files failed, when those before it had been put
abbrev pub StopsInPuts : List NamedFile → Option Trace → Option Trace → Type 0
StopsInPuts files old new =
    (before : List NamedFile) × (file : NamedFile) × (rest : List NamedFile) × (files ≡ before ++ file ∷ rest) × FailsToPut file.0 file.1 (option_map (after_puts before) old) new

-- where publishing failed, and what had been done
abbrev pub StopsPublishing : CreatePlace → List ℕ → Option Trace → Option Trace → Type 0
StopsPublishing place.Put format old new = FailsToPut (only_name FormatNext) format old new
StopsPublishing place.Firm format old new = ⊥
StopsPublishing place.Rename format old new = FailsAt (Rename (only_name FormatNext) (only_name Format)) (option_map (after_next format) old) new
StopsPublishing place.Last format old new = FailsAt FirmNames (option_map (after_rename format) old) new

-- where a creation failed, and what had been done. At Put a folder failed, a file's put, or that of `db/format-next`.
abbrev pub StopsAt : CreatePlace → List NamedFile → List ℕ → Option Trace → Option Trace → Type 0
StopsAt place.Put files format old new = (new ≡ old) ⊎ (StopsInPuts files old new ⊎ StopsPublishing place.Put format (option_map (after_firm files) old) new)
StopsAt place.Firm files format old new = FailsAt FirmNames (option_map (after_puts files) old) new
StopsAt place.Rename files format old new = StopsPublishing place.Rename format (option_map (after_firm files) old) new
StopsAt place.Last files format old new = StopsPublishing place.Last format (option_map (after_firm files) old) new

-- there is a repository: `db/format` is there
abbrev pub HasRepository : Trace → Type 0
HasRepository t = IsSome (file_at t (only_name Format))

-- the same, as far as the disk tells
abbrev pub IsRepository : Option Trace → Type 0
IsRepository told = IfSome told HasRepository

-- there is none
abbrev pub IsNoRepository : Option Trace → Type 0
IsNoRepository told = IfSome told (λ t. file_at t (only_name Format) ≡ None)

-- files that are no repository
abbrev pub IsUnpublished : Files → Type 0
IsUnpublished m = get m (only_name Format) ≡ None

-- The files are those from before without `db/format-next`, with those of a new repository laid over them.
abbrev pub IsCreated : ℕ → List ℕ → ℕ → Option Trace → Option Trace → Type 0
IsCreated shard identifier moment old new =
    (date : List ℕ) × IsDateAt moment date × (option_map files_now new ≡ option_map (created_over shard identifier date) (option_map files_now old))

-- a creation failed at this place: at the look it did nothing, else it came as far as that place
abbrev pub IsStopped : DiskPlace → ℕ → List ℕ → ℕ → Option Trace → Option Trace → Type 0
IsStopped Read shard identifier moment old new = new ≡ old
IsStopped (Create call) shard identifier moment old new =
    (date : List ℕ) × IsDateAt moment date × StopsAt call (unpublished_files identifier date) (format_text shard) old new
IsStopped call shard identifier moment old new = ⊥

-- what a crash in the middle of a creation leaves: no repository, or the whole of it
abbrev pub IsNoneOrWhole : ℕ → List ℕ → ℕ → Option Trace → Files → Type 0
IsNoneOrWhole shard identifier moment old m =
    IsUnpublished m ⊎ ((date : List ℕ) × IsDateAt moment date × IfSome old (λ t. m ≡ created_over shard identifier date (files_now t)))

-- why a creation did nothing, or how far it came; `rose` says that the disk's count of faults rose
abbrev pub CreateFails : Type 0 → ℕ → List ℕ → ℕ → Option Trace → Option Trace → CreateFault → Type 0
CreateFails rose shard identifier moment old new AlreadyRepo = IsRepository old × (new ≡ old)
CreateFails rose shard identifier moment old new (DiskFault place) = rose × IsStopped place shard identifier moment old new
CreateFails rose shard identifier moment old new Memory = new ≡ old
