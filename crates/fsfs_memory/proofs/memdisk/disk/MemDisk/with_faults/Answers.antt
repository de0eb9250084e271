use Rattle.std.proofs.Common.{◌≡◌, sym, subst, ◌∙◌}
use Rattle.fsfs_disk.specs.Benches.{HasShortFiles}
use Rattle.fsfs_disk.specs.Trace.{IsImage}
use Rattle.fsfs_disk.proofs.ShortLemmas.{short_empty}
use Rattle.fsfs_memory.specs.Memdisk.Stored.{operations_of}
use Rattle.fsfs_memory.proofs.memdisk.disk.MemDisk.with_faults.Goals as goal

pub invariant_of-result-clause-short : goal.invariant_of-result-clause-short
invariant_of-result-clause-short c = λ m image.
    let first : m ≡ c.new-2.result = subst (λ operations. IsImage c.new-2.result (operations_of operations) m) c.new-4.ensures.items image in
    subst HasShortFiles (sym (first ∙ c.new-2.ensures)) short_empty
