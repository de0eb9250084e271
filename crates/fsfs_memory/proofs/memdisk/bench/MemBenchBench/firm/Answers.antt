use Rattle.std.proofs.Common.{ap}
use Rattle.std.specs.Prelude.{Some}
use Rattle.std.proofs.lemmas.Result.{on_ok_weaker}
use Rattle.fsfs_memory.specs.Memdisk.BenchFiles.{bench_bytes, held_files}
use Rattle.fsfs_memory.specs.Memdisk.MemBench.{contents_of}
use Rattle.fsfs_memory.proofs.HeldLemmas.{put_back_by, gone_by, short_gone}
use Rattle.fsfs_memory.proofs.memdisk.bench.MemBenchBench.firm.Goals as goal

pub invariant_of-self-2 : goal.invariant_of-self-2
invariant_of-self-2 c = record {
  short = short_gone (held_files c.args.self.now.files.by_name.entries) (held_files c.take.new.self.by_name.entries) c.args.file.now c.take.ensures.files c.args.self.now.short;
}

pub returns-in-None-clause-ok : goal.returns-in-None-clause-ok
returns-in-None-clause-ok c = ap (λ m. Some m) (gone_by (contents_of c.args.self.now) (held_files c.take.new.self.by_name.entries) c.args.file.now c.take.ensures.files c.in-None.ensures.found)

pub returns-in-Some-clause-ok : goal.returns-in-Some-clause-ok
returns-in-Some-clause-ok c = on_ok_weaker c.settle.result (λ put. ap (λ m. Some m)
    (put_back_by (contents_of c.args.self.now) (held_files c.take.new.self.by_name.entries) (contents_of c.settle.new.self) c.args.file.now (bench_bytes c.in-Some.held) (bench_bytes c.made_firm.result)
    c.take.ensures.files c.in-Some.ensures.found c.made_firm.ensures.bytes put)) c.settle.ensures.ok
