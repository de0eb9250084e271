use Rattle.std.proofs.Common.{sym, ap, ◌∙◌}
use Rattle.std.specs.Prelude.{Some, option_map}
use Rattle.fsfs_memory.specs.Memdisk.BenchFiles.{bench_bytes}
use Rattle.fsfs_memory.proofs.EntryLemmas.{get-files_by}
use Rattle.fsfs_memory.proofs.memdisk.bench_files.BenchFiles.get.Goals as goal

pub returns-in-Some : goal.returns-in-Some
returns-in-Some c =
    get-files_by bench_bytes c.args.name.now c.args.self.now.by_name.entries
    ∙ ap (λ o. option_map bench_bytes o) (sym c.in-Some.ensures.value)
    ∙ ap (λ bytes. Some bytes) (sym c.as_slice.ensures.value)

pub returns-in-None : goal.returns-in-None
returns-in-None c =
    get-files_by bench_bytes c.args.name.now c.args.self.now.by_name.entries
    ∙ ap (λ o. option_map bench_bytes o) (sym c.in-None.ensures.value)
