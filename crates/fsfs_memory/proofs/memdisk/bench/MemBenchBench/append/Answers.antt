use Rattle.std.proofs.Common.{ap, ◌∙◌}
use Rattle.std.specs.Prelude.{Some, option_map}
use Rattle.std.proofs.lemmas.Result.{on_ok_weaker}
use Rattle.fsfs_memory.specs.Memdisk.BenchFiles.{bench_bytes, held_files}
use Rattle.fsfs_memory.specs.Memdisk.MemBench.{contents_of}
use Rattle.fsfs_memory.proofs.HeldLemmas.{appended_by, short_gone}
use Rattle.fsfs_memory.proofs.memdisk.bench.MemBenchBench.append.Goals as goal

pub invariant_of-self-in-Ok-1 : goal.invariant_of-self-in-Ok-1
invariant_of-self-in-Ok-1 c = record {
  short = short_gone (held_files c.args.self.now.files.by_name.entries) (held_files c.take-held.new.self.by_name.entries) c.args.file.now c.take-held.ensures.files c.args.self.now.short;
}

pub invariant_of-self-in_default : goal.invariant_of-self-in_default
invariant_of-self-in_default c = record {
  short = short_gone (held_files c.args.self.now.files.by_name.entries) (held_files c.take-held.new.self.by_name.entries) c.args.file.now c.take-held.ensures.files c.args.self.now.short;
}

pub returns-clause-ok : goal.returns-clause-ok
returns-clause-ok c = on_ok_weaker c.settle.result (λ put. ap (λ m. Some m)
    (appended_by (contents_of c.args.self.now) (held_files c.take-held.new.self.by_name.entries) (contents_of c.settle.new.self) c.args.file.now c.args.bytes.now (bench_bytes c.in-Ok.longer) (bench_bytes c.or_empty.result) (option_map bench_bytes c.take-held.result)
    c.take-held.ensures.files c.take-held.ensures.found c.or_empty.ensures.bytes c.in-Ok.ensures.bytes put)) c.settle.ensures.ok

pub returns-clause-firm : goal.returns-clause-firm
returns-clause-firm c = on_ok_weaker c.settle.result (λ firm. firm ∙ c.in-Ok.ensures.firm ∙ c.or_empty.ensures.firm ∙ c.take-held.ensures.was_firm) c.settle.ensures.firm
