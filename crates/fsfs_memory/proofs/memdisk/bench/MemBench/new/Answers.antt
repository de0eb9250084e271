use Rattle.std.proofs.Common.{sym, subst}
use Rattle.fsfs_disk.specs.Benches.{HasShortFiles}
use Rattle.fsfs_disk.proofs.ShortLemmas.{short_empty}
use Rattle.fsfs_memory.proofs.memdisk.bench.MemBench.new.Goals as goal

pub invariant_of-result : goal.invariant_of-result
invariant_of-result c = record { short = subst HasShortFiles (sym c.new.ensures.files) short_empty }
