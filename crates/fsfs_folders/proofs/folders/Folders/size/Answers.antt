use Rattle.std.proofs.Common.{◌≡◌, rules, refl, true, false, sym, ap, subst, ◌∙◌, arith}
use Rattle.std.specs.Prelude.{IfOk, None}
use Rattle.fsfs_disk.specs.Trace.{IsSize}
use Rattle.fsfs_folders.proofs.FolderCalls.{told_there, told_apart}
use Rattle.fsfs_folders.proofs.folders.Folders.size.Goals as goal

pub returns-then-is_apart-clause-length : goal.returns-then-is_apart-clause-length
returns-then-is_apart-clause-length g c =
    told_apart (λ f. IsSize f None) c.args.name.now (g.C.Calls.history c.args.self.now.calls) c.args.self.now.changed c.args.self.now.is_settled c.args.self.now.sound
    (sym c.is_apart.ensures ∙ c.if-is_apart.true) refl

pub returns-clause-length : goal.returns-clause-length
returns-clause-length g c =
    told_there (λ f. IfOk c.file_size.result (IsSize f)) c.of.result c.args.name.now (g.C.Calls.history c.args.self.now.calls) c.args.self.now.changed c.args.self.now.is_settled c.args.self.now.sound
    (sym c.is_apart.ensures ∙ c.if-is_apart.false) c.of.ensures c.file_size.ensures.length
