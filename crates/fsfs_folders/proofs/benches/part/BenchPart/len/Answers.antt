use Rattle.std.proofs.Common.{◌≡◌, rules, refl, sym, ap, ◌∙◌}
use Rattle.std.specs.Prelude.{IfOk, None}
use Rattle.fsfs_disk.specs.Trace.{IsSize}
use Rattle.fsfs_folders.proofs.BenchTold.{held_there, held_apart}
use Rattle.fsfs_folders.proofs.benches.part.BenchPart.len.Goals as goal

pub returns-then-not-is_entry-clause-length : goal.returns-then-not-is_entry-clause-length
returns-then-not-is_entry-clause-length g c = held_apart (λ f. IsSize f None) c.args.file.now (g.C.Calls.history c.args.self.now.calls) (search rules) refl

pub returns-clause-length : goal.returns-clause-length
returns-clause-length g c =
    held_there (λ f. IfOk c.file_size.result (IsSize f)) c.of.result c.args.file.now (g.C.Calls.history c.args.self.now.calls) (search rules) c.of.ensures c.file_size.ensures.length
