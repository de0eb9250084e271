use Rattle.std.specs.Prelude.{None}
use Rattle.fsfs_memory.specs.Memdisk.BenchFiles.{bench_bytes}
use Rattle.fsfs_memory.proofs.EntryLemmas.{files_by_removed}
use Rattle.fsfs_memory.proofs.HeldLemmas.{firm_elsewhere, held_found}
use Rattle.fsfs_memory.proofs.memdisk.bench_files.BenchFiles.take.Goals as goal

pub returns-clause-files : goal.returns-clause-files
returns-clause-files c = files_by_removed bench_bytes c.args.self.now.by_name.entries c.remove.new.self.entries c.args.name.now c.remove.ensures.updates.0

pub returns-clause-found : goal.returns-clause-found
returns-clause-found c = held_found c.args.self.now.by_name.entries c.args.name.now c.remove.result c.remove.ensures.value

pub returns-clause-others : goal.returns-clause-others
returns-clause-others c = firm_elsewhere c.args.self.now.by_name.entries c.remove.new.self.entries c.args.name.now None c.remove.ensures.updates.0
