-- What is told of the packs of a run of svnjobs: of those beside its jobs, and of the call behind them.
use Rattle.std.specs.Prelude.{◌+◌, ◌-◌, ◌^◌, ◌/◌, ℕ, min, Option, Some, None, option_map, Result, Ok, Err}
use Rattle.fsfs_cli.specs.declared.faults.fault.Fault.{Fault}
use Rattle.fsfs_layout.specs.Layouts.{shard_size}
use Rattle.fsfs_layout.specs.declared.layout.Layout.{Layout}
use Rattle.fsfs_pack_run.specs.PackEnd.{PackEnd}
use Rattle.fsfs_pack_run.specs.PackFault.{PackFault}
use Rattle.fsfs_pack_run.specs.Runs.{fault_from_pack}
use Rattle.fsfs_pack_run.specs.declared.running.Packed.{Packed}
use Rattle.fsfs_workers.specs.declared.packs.Packs.{Packs}

-- ---- why packing stopped

-- the first fault of the calls beside the jobs, where there were any
abbrev pub fault_beside : Option Packs → Option Fault
fault_beside None = None
fault_beside (Some packs) = option_map fault_from_pack packs.fault

-- that of the call behind them
abbrev pub fault_of_end : Result PackEnd PackFault → Option Fault
fault_of_end (Ok end) = None
fault_of_end (Err why) = Some (fault_from_pack why)

-- the same where the repository wasn't opened for it
abbrev pub fault_behind : Result Packed Fault → Option Fault
fault_behind (Ok packed) = fault_of_end packed.end
fault_behind (Err fault) = Some fault

-- the first of two
abbrev pub first_fault : Option Fault → Option Fault → Option Fault
first_fault (Some fault) later = Some fault
first_fault None later = later

-- ---- how many shards were packed

-- Of the calls beside the jobs: of so many the floor above them was renamed.
abbrev pub shards_beside : Option Packs → ℕ
shards_beside None = 0
shards_beside (Some packs) = packs.renamed

-- Of all: those by which the floor had risen from where it was as the jobs began, and those from there on that the last call renamed it for. The sum stops at the last
-- number of a u64.
abbrev pub risen_shards : Layout → ℕ → Packed → ℕ
risen_shards layout was packed = min (packed.renamed + (packed.floor - was) / shard_size layout) (2 ^ 64 - 1)

-- What is told. Where the repository wasn't opened behind the jobs, nobody read the floor.
abbrev pub told_shards : Layout → ℕ → Option Packs → Result Packed Fault → ℕ
told_shards layout was beside (Ok packed) = risen_shards layout was packed
told_shards layout was beside (Err fault) = shards_beside beside
