use Rattle.std.proofs.Common.{ℕ, List}
use Rattle.std.specs.Prelude.{Option, IfOk}
use Rattle.fsfs_disk.specs.Trace.{IsRead}
use Rattle.fsfs_fetch.proofs.FileLemmas.{read_stays}
use Rattle.fsfs_fetch.proofs.parts.StorePartsParts.read_part.Goals as goal

pub returns-clause-bytes : goal.returns-clause-bytes
returns-clause-bytes g c = λ file s.
    let v = g.R.Reads.view c.args.self.now.reads.now in
    let w = g.R.Reads.view c.read.new.self in
    let P : Option (List ℕ) → Type 0 = λ f. IfOk c.read.result (IsRead f c.args.offset c.args.buffer.now c.read.new.buffer) in
    read_stays v w c.args.name.now file P c.read.ensures.later s c.read.ensures.bytes
