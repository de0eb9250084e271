-- Which labels a crash may leave.
use Rattle.std.specs.Prelude.{◌≡◌, List, [], Bool, true, false, Option, IfSome}
use Rattle.fsfs_disk.specs.Labels.{Label, has_label}
use Rattle.fsfs_disk.specs.Trace.{labels_now}
use Rattle.fsfs_folders.specs.System.CallRecord.{NameCall, MakeFolder, DropFolder, Create, Take, Rename, Remove, Call, CallRecord, Standing}
use Rattle.fsfs_folders.specs.System.Remains.{AreNamesLeft, are_firm}
use Rattle.fsfs_folders.specs.LabelPaths.{bench_folder, IsFitting}
use Rattle.fsfs_folders.specs.Told.{is_in_bench, trace_of}

-- a change that drops the folder of a bench
abbrev pub of_drops : NameCall → Bool
of_drops (MakeFolder path) = false
of_drops (DropFolder path) = is_in_bench path
of_drops (Create path) = false
of_drops (Take path contents) = false
of_drops (Rename from to) = false
of_drops (Remove path) = false

-- each folder of a bench that was dropped is so firmly
abbrev pub are_drops_firm : List Call → Bool
are_drops_firm calls = are_firm of_drops [] calls

-- each label whose folder a crash leaves is kept
abbrev pub LeavesLabels : CallRecord → Type 0
LeavesLabels r = (names : Standing) (l : Label) → AreNamesLeft r.first [] r.calls names → IsFitting l → names.folders (bench_folder l) ≡ true → has_label l (labels_now (trace_of r)) ≡ true

-- what was dropped firmly is so still, and what was dropped since
abbrev pub KeepsDropsFirm : Option CallRecord → Option CallRecord → Type 0
KeepsDropsFirm old new = IfSome old (λ r. are_drops_firm r.calls ≡ true) → IfSome new (λ r. are_drops_firm r.calls ≡ true)
