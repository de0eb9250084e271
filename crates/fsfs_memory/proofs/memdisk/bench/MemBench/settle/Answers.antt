use Rattle.std.proofs.Common.{sym, subst}
use Rattle.fsfs_disk.specs.Benches.{HasShortFiles}
use Rattle.fsfs_disk.proofs.ShortLemmas.{short_insert}
use Rattle.fsfs_memory.specs.Memdisk.BenchFiles.{bench_bytes, held_files}
use Rattle.fsfs_memory.proofs.memdisk.bench.MemBench.settle.Goals as goal

pub invariant_of-self : goal.invariant_of-self
invariant_of-self c = record {
  short = subst HasShortFiles (sym c.in-Ok.ensures.ok)
      (short_insert (held_files c.args.self.now.files.by_name.entries) c.args.name.now (bench_bytes c.args.file) c.args.self.now.short c.requires);
}
