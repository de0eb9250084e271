use Rattle.std.proofs.Common.{ap, ◌∙◌}
use Rattle.std.specs.Prelude.{Some}
use Rattle.std.specs.FinMap as map
use Rattle.fsfs_memory.specs.Memdisk.BenchFiles.{bench_bytes, held_files}
use Rattle.fsfs_memory.proofs.EntryLemmas.{files_by_inserted}
use Rattle.fsfs_memory.proofs.HeldLemmas.{firm_elsewhere}
use Rattle.fsfs_memory.proofs.memdisk.bench_files.BenchFiles.put.Goals as goal

pub returns-clause-ok : goal.returns-clause-ok
returns-clause-ok c =
    files_by_inserted bench_bytes c.args.self.now.by_name.entries c.insert.new.self.entries c.copy.result c.args.file c.in_ok-insert.ensures.updates.0
    ∙ ap (λ k. map.insert (held_files c.args.self.now.by_name.entries) k (bench_bytes c.args.file)) c.copy.ensures

pub returns-clause-others : goal.returns-clause-others
returns-clause-others c = λ q apart.
    firm_elsewhere c.args.self.now.by_name.entries c.insert.new.self.entries c.copy.result (Some c.args.file) c.in_ok-insert.ensures.updates.0 q (λ e. apart (e ∙ c.copy.ensures))
