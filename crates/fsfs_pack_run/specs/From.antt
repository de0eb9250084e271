-- What packing the repository on a disk comes to, from where it stood.
use Rattle.std.specs.Prelude.{◌≡◌, ℕ, Option, IfSome, IfOk, IfErr, Result, Ok, Err}
use Rattle.fsfs_base.specs.Failures.{Rose}
use Rattle.fsfs_base.specs.declared.places.open_fault.OpenFault.{OpenFault}
use Rattle.fsfs_layout.specs.Opening.{small_texts, IsOpened}
use Rattle.fsfs_layout.specs.declared.opened.Opened.{Opened}
use Rattle.fsfs_disk.specs.Trace.{Trace, FirmNames, FailsAt, files_now}
use Rattle.fsfs_repo.specs.OpenFaults.{OpensBecause}
use Rattle.fsfs_repo.specs.PackCauses.{IfBench, IfDisk}
use Rattle.fsfs_repo.specs.Packs.{LeftRose, Renamed}
use Rattle.fsfs_cli.specs.CommandFaults.{fault_from_open}
use Rattle.fsfs_cli.specs.declared.faults.fault.Fault.{Fault}
use Rattle.fsfs_pack_run.specs.declared.running.Packed.{Packed}
use Rattle.fsfs_pack_run.specs.Runs.{told_of, KeepsListing, PacksIt}

-- PACKING THE REPOSITORY ON A DISK FROM WHERE IT STANDS, by what it came to. The disk's count of faults went from `before` to `after`, and `bench` says that the
-- count of benches rose. The repository is opened first.
pub data PacksFrom (before after : ℕ) (bench : Type 0) (old new : Option Trace) : Result Packed Fault → Type 0 where
  -- it is not opened; of the disk no more was done than that its names were made firm
  NotOpened : (why : OpenFault) → OpensBecause (Rose before after) old why → FailsAt FirmNames old new → PacksFrom before after bench old new (Err (fault_from_open why))
  -- It was opened, with the floor that its small files say, and packing ended so. Of so many shards the floor above them was renamed. As many calls of the disk
  -- failed as old files are left of what is packed, and it or a bench is told to have failed only where that is so.
  Ended : (o : Opened) (packed : Packed) → IfSome old (λ t. IsOpened (small_texts (files_now t)) o) → packed.floor ≡ o.min_unpacked_rev → Renamed packed.end packed.renamed → PacksIt packed.end old new → KeepsListing (Rose before after) old new
      → IfOk packed.end (λ e. LeftRose e before after) → IfErr packed.end (λ why. IfDisk why (Rose before after)) → IfErr packed.end (λ why. IfBench why bench) → PacksFrom before after bench old new (Ok packed)

-- what is told of it: how many shards were packed, or why not
abbrev pub told_from : Result Packed Fault → Result ℕ Fault
told_from (Ok packed) = told_of packed.end
told_from (Err why) = Err why
