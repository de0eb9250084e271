use Rattle.std.proofs.Common.{sym, ap, ◌∙◌}
use Rattle.std.specs.Prelude.{Some, option_map}
use Rattle.std.specs.FinMap as map
use Rattle.fsfs_memory.specs.Memdisk.MemFiles.{content}
use Rattle.fsfs_memory.proofs.EntryLemmas.{get-files_by}
use Rattle.fsfs_memory.proofs.memdisk.files.MemFiles.share.Goals as goal

pub returns-in_ok-clone-in-Some : goal.returns-in_ok-clone-in-Some
returns-in_ok-clone-in-Some c =
    ap (λ v. Some v.items) c.in_ok-clone-in-Some.ensures.cases
    ∙ ap (λ o. option_map content o) c.in-Some.ensures.value
    ∙ sym (get-files_by content c.args.name.now c.self.inside.by_name.entries)
    ∙ ap (λ m. map.get m c.args.name.now) c.self.view_is

pub returns-in-None : goal.returns-in-None
returns-in-None c =
    ap (λ o. option_map content o) c.in-None.ensures.value
    ∙ sym (get-files_by content c.args.name.now c.self.inside.by_name.entries)
    ∙ ap (λ m. map.get m c.args.name.now) c.self.view_is
