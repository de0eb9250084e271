use Rattle.fsfs_memory.specs.Memdisk.BenchFiles.{held_files}
use Rattle.fsfs_memory.proofs.HeldLemmas.{short_gone}
use Rattle.fsfs_memory.proofs.memdisk.bench.MemBenchBench.remove.Goals as goal

pub invariant_of-self-2 : goal.invariant_of-self-2
invariant_of-self-2 c = record {
  short = short_gone (held_files c.args.self.now.files.by_name.entries) (held_files c.take.new.self.by_name.entries) c.args.file.now c.take.ensures.files c.args.self.now.short;
}
