use Rattle.std.proofs.Common.{ap, ◌∙◌}
use Rattle.std.specs.FinMap.{from_entries}
use Rattle.fsfs_memory.specs.Memdisk.MemFiles.{content}
use Rattle.fsfs_memory.proofs.EntryLemmas.{named_files-clone}
use Rattle.fsfs_memory.proofs.memdisk.files.MemFilesClone.clone.Goals as goal

pub returns : goal.returns
returns c = record {
  cases = ap (λ files. from_entries files) (named_files-clone content _ _ (λ a b h. h) (λ x y h. ap (λ v. v.items) h) c.self.inside.by_name.entries c.in_ok-clone.field-0.entries c.in_ok-clone.ensures.cases)
      ∙ c.self.view_is;
}
