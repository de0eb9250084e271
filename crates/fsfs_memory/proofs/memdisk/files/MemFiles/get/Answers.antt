use Rattle.std.proofs.Common.{sym, ap, ◌∙◌}
use Rattle.std.specs.Prelude.{Some, option_map}
use Rattle.std.specs.FinMap as map
use Rattle.fsfs_memory.specs.Memdisk.MemFiles.{content}
use Rattle.fsfs_memory.proofs.EntryLemmas.{get-files_by}
use Rattle.fsfs_memory.proofs.memdisk.files.MemFiles.get.Goals as goal

pub returns-in-Some : goal.returns-in-Some
returns-in-Some c =
    ap (λ m. map.get m c.args.name.now) (sym c.self.view_is)
    ∙ get-files_by content c.args.name.now c.self.inside.by_name.entries
    ∙ ap (λ o. option_map content o) (sym c.in-Some.ensures.value)
    ∙ ap (λ bytes. Some bytes) (sym (c.as_slice.ensures.value ∙ ap (λ v. v.items) c.deref.ensures))

pub returns-in-None : goal.returns-in-None
returns-in-None c =
    ap (λ m. map.get m c.args.name.now) (sym c.self.view_is)
    ∙ get-files_by content c.args.name.now c.self.inside.by_name.entries
    ∙ ap (λ o. option_map content o) (sym c.in-None.ensures.value)
