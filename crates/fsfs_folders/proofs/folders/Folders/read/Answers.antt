use Rattle.std.proofs.Common.{◌≡◌, rules, refl, true, false, sym, ap, subst, ◌∙◌, arith}
use Rattle.std.specs.Prelude.{IfOk, None}
use Rattle.fsfs_disk.specs.Trace.{IsRead}
use Rattle.fsfs_folders.proofs.FolderCalls.{told_there, told_apart}
use Rattle.fsfs_folders.proofs.folders.Folders.read.Goals as goal

pub returns-then-is_apart-clause-bytes : goal.returns-then-is_apart-clause-bytes
returns-then-is_apart-clause-bytes g c =
    told_apart (λ f. IsRead f c.args.offset c.args.buffer.now c.args.buffer.now None) c.args.name.now (g.C.Calls.history c.args.self.now.calls) c.args.self.now.changed c.args.self.now.is_settled c.args.self.now.sound
    (sym c.is_apart.ensures ∙ c.if-is_apart.true) (refl, refl)

pub returns-clause-bytes : goal.returns-clause-bytes
returns-clause-bytes g c =
    told_there (λ f. IfOk c.read_file.result (IsRead f c.args.offset c.args.buffer.now c.read_file.new.buffer)) c.of.result c.args.name.now (g.C.Calls.history c.args.self.now.calls) c.args.self.now.changed c.args.self.now.is_settled c.args.self.now.sound
    (sym c.is_apart.ensures ∙ c.if-is_apart.false) c.of.ensures c.read_file.ensures.bytes
