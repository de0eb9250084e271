use Rattle.std.proofs.Common.{ℕ, List}
use Rattle.std.specs.Prelude.{Option, IfOk}
use Rattle.fsfs_disk.specs.Trace.{IsRead}
use Rattle.fsfs_disk.proofs.DiskLemmas.{told_file}
use Rattle.fsfs_create.proofs.small_files.SmallPartsParts.read_part.Goals as goal

pub returns-clause-bytes : goal.returns-clause-bytes
returns-clause-bytes g c = λ file t.
    let P : Option (List ℕ) → Type 0 = λ f. IfOk c.read.result (IsRead f c.args.offset c.args.buffer.now c.read.new.buffer) in
    told_file (g.D.Disk.trace c.args.self.now.disk.now) c.args.name.now file P c.read.ensures.bytes t
