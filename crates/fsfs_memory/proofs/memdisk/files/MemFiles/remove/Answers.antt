use Rattle.std.proofs.Common.{ap, ◌∙◌}
use Rattle.std.specs.FinMap as map
use Rattle.fsfs_memory.specs.Memdisk.MemFiles.{content}
use Rattle.fsfs_memory.proofs.EntryLemmas.{files_by_removed}
use Rattle.fsfs_memory.proofs.memdisk.files.MemFiles.remove.Goals as goal

pub returns : goal.returns
returns c =
    files_by_removed content c.self.inside.by_name.entries c.remove.new.self.entries c.args.name.now c.remove.ensures.updates.0
    ∙ ap (λ m. map.remove m c.args.name.now) c.self.view_is
