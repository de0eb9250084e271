-- What publishing a file leaves.
use Rattle.std.specs.Prelude.{◌≡◌, ◌⊎◌, ℕ, List, true, Option, Some, None, IfSome}
use Rattle.std.specs.FinMap.{insert}
use Rattle.fsfs_base.specs.Files.{Files}
use Rattle.fsfs_disk.specs.Labels.{Label, has_label}
use Rattle.fsfs_disk.specs.Trace.{Trace, Adopt, FirmNames, Done, add_operation, IsImage, labels_now, FailsAt}
use Rattle.fsfs_disk.specs.declared.publishing.PublishFault.{PublishFault}
use Rattle.fsfs_disk.specs.declared.publishing.PublishFault.TheVariants as fault

-- an image from before, or one with the file
abbrev pub IsOldOrNew : List ℕ → List ℕ → Option Trace → Files → Type 0
IsOldOrNew name text None m = Unit {0}
IsOldOrNew name text (Some t) m = IsImage t.first t.operations m ⊎ ((was : Files) × IsImage t.first t.operations was × (m ≡ insert was name text))

-- a label that was kept before, or this one
abbrev pub IsOldOrThis : Label → Option Trace → Label → Type 0
IsOldOrThis l old k = (k ≡ l) ⊎ IfSome old (λ t. has_label k (labels_now t) ≡ true)

abbrev pub after_naming : List ℕ → List ℕ → Trace → Trace
after_naming name text t = add_operation (Done FirmNames) (add_operation (Done (Adopt name text)) t)

-- the file was adopted and the names made firm, as far as the disk let
abbrev pub EndsNaming : List ℕ → List ℕ → Option Trace → Option Trace → Type 0
EndsNaming name text old new = (mid : Option Trace) × FailsAt (Adopt name text) old mid × FailsAt FirmNames mid new

-- the count of what failed rose
abbrev pub FailedBy : Type 0 → Type 0 → PublishFault → Type 0
FailedBy disk bench fault.Disk = disk
FailedBy disk bench fault.Bench = bench
