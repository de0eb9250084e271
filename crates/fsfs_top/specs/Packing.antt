-- Packing a repository: what it prints and does, and why not.
use Rattle.std.specs.Prelude.{◌≡◌, ◌⊎◌, ℕ, List, Option, Some, Result, Ok, Err}
use Rattle.fsfs_base.specs.Failures.{Rose}
use Rattle.fsfs_cli.specs.declared.faults.fault.Fault.{Fault}
use Rattle.fsfs_cli.specs.declared.faults.fault.Fault.TheVariants.{Outside}
use Rattle.fsfs_cli.specs.declared.faults.outside_fault.OutsideFault.TheVariants.{Mount}
use Rattle.fsfs_disk.specs.Trace.{Trace, files_now}
use Rattle.fsfs_stands.specs.Files.{StandsFor}
use Rattle.fsfs_tree.specs.Revisions.{Revision}
use Rattle.fsfs_pack_run.specs.Runs.{PacksDisk}
use Rattle.fsfs_top.specs.Looks.{PrintsLine}
use Rattle.fsfs_top.specs.PackAnswers.{packed_line}
use Rattle.fsfs_top.specs.Scenes.{Scene, SinkScene}

-- the disk tells its files, and they stand for this history
abbrev pub HoldsHistory : List Revision → Option Trace → Type 0
HoldsHistory h told = (t : Trace) × (told ≡ Some t) × StandsFor (files_now t) h

-- what is printed of packing that is told so: how many shards were packed; or nothing, and the fault is told
abbrev pub PrintsPacked : Result ℕ Fault → SinkScene → SinkScene → Option Fault → Type 0
PrintsPacked (Ok shards) old new fault = PrintsLine (packed_line shards) old new fault
PrintsPacked (Err why) old new fault = (fault ≡ Some why) × (new ≡ old)

-- the repository at a path was packed, and what is told of that was printed; or the path was not mounted, and nothing was done
abbrev pub Packs : List ℕ → Scene → Scene → Option Fault → Type 0
Packs repos a b fault =
    ((fault ≡ Some (Outside Mount)) × Rose a.host.mount_faults b.host.mount_faults × (b.host.disk_at repos ≡ a.host.disk_at repos) × (b.out ≡ a.out))
    ⊎ ((told : Result ℕ Fault) × PacksDisk a.host.disk_faults b.host.disk_faults (Rose a.host.bench_faults b.host.bench_faults) (a.host.disk_at repos) (b.host.disk_at repos) told × PrintsPacked told a.out b.out fault)
