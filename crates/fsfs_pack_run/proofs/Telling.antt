-- What is told of packing, by what it came to.
use Rattle.std.proofs.Common.{ℕ}
use Rattle.std.specs.Prelude.{Option, Result}
use Rattle.fsfs_cli.specs.declared.faults.fault.Fault.{Fault}
use Rattle.fsfs_disk.specs.Trace.{Trace}
use Rattle.fsfs_pack_run.specs.declared.running.Packed.{Packed}
use Rattle.fsfs_pack_run.specs.From.{told_from, PacksFrom, NotOpened, Ended}
use Rattle.fsfs_pack_run.specs.Runs.{PacksDisk, NotOpened as DiskNotOpened, Ended as DiskEnded}
use Rattle.fsfs_pack_run.proofs.Ending.{bench_on}

-- with a weaker word of the benches
pub told_by : (before after : ℕ) (bench risen : Type 0) (old new : Option Trace) (packed : Result Packed Fault) → (bench → risen) → PacksFrom before after bench old new packed → PacksDisk before after risen old new (told_from packed)
told_by before after bench risen old new _ f (NotOpened why because firm) = DiskNotOpened why because firm
told_by before after bench risen old new _ f (Ended o packed opens floor renamed over listed left failed benches) = DiskEnded o packed.end opens over listed left failed (bench_on bench risen packed.end f benches)
