use Rattle.std.proofs.Common.{◌≡◌, rules, refl, sym, ap, ◌∙◌}
use Rattle.std.specs.Prelude.{IfOk, None}
use Rattle.fsfs_disk.specs.Trace.{IsRead}
use Rattle.fsfs_folders.proofs.BenchTold.{held_there, held_apart}
use Rattle.fsfs_folders.proofs.benches.part.BenchPart.read.Goals as goal

pub returns-then-not-is_entry-clause-bytes : goal.returns-then-not-is_entry-clause-bytes
returns-then-not-is_entry-clause-bytes g c =
    held_apart (λ f. IsRead f c.args.offset c.args.buffer.now c.args.buffer.now None) c.args.file.now (g.C.Calls.history c.args.self.now.calls) (search rules) (refl, refl)

pub returns-clause-bytes : goal.returns-clause-bytes
returns-clause-bytes g c =
    held_there (λ f. IfOk c.read_file.result (IsRead f c.args.offset c.args.buffer.now c.read_file.new.buffer)) c.of.result c.args.file.now (g.C.Calls.history c.args.self.now.calls) (search rules) c.of.ensures c.read_file.ensures.bytes
