use Rattle.std.proofs.Common.{sym, subst}
use Rattle.fsfs_disk.specs.Benches.{HasShortFiles}
use Rattle.fsfs_disk.proofs.ShortLemmas.{short_remove}
use Rattle.fsfs_memory.specs.Memdisk.BenchFiles.{held_files}
use Rattle.fsfs_memory.proofs.memdisk.bench.MemBench.forget.Goals as goal

pub invariant_of-self : goal.invariant_of-self
invariant_of-self c = record {
  short = subst HasShortFiles (sym c.take.ensures.files) (short_remove (held_files c.args.self.now.files.by_name.entries) c.args.name.now c.args.self.now.short);
}
