use Rattle.std.proofs.Common.{ap, ◌∙◌}
use Rattle.std.specs.FinMap as map
use Rattle.fsfs_memory.specs.Memdisk.MemFiles.{content}
use Rattle.fsfs_memory.proofs.EntryLemmas.{files_by_inserted}
use Rattle.fsfs_memory.proofs.memdisk.files.MemFiles.insert.Goals as goal

pub returns-clause-ok : goal.returns-clause-ok
returns-clause-ok c =
    files_by_inserted content c.self.inside.by_name.entries c.insert.new.self.entries c.args.name c.args.bytes c.in_ok-insert.ensures.updates.0
    ∙ ap (λ m. map.insert m c.args.name (content c.args.bytes)) c.self.view_is
