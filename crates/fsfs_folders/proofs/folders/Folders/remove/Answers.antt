use Rattle.std.proofs.Common.{◌≡◌, rules, sym, subst, ◌∙◌}
use Rattle.std.specs.Prelude.{IfSome, None, IsErrOf}
use Rattle.fsfs_folders.specs.System.CallRecord.{Remove, Makes, names_now}
use Rattle.fsfs_folders.proofs.PutLemmas.{none_beside, there_gone, none_absent, if_given}
use Rattle.fsfs_folders.proofs.folders.Folders.remove.Goals as goal

pub returns-then-is_apart-clause-there : goal.returns-then-is_apart-clause-there
returns-then-is_apart-clause-there g c =
    none_beside c.args.name.now (g.C.Calls.history c.args.self.now.calls) c.args.self.now.changed c.args.self.now.is_settled c.args.self.now.sound
    (sym c.is_apart.ensures ∙ c.if-is_apart.true)

pub returns-in-Ok-clause-there : goal.returns-in-Ok-clause-there
returns-in-Ok-clause-there g c =
    let new = g.C.Calls.history c.remove.new.self in
    there_gone c.args.name.now (g.C.Calls.history c.args.self.now.calls) new c.args.self.now.changed c.args.self.now.is_settled c.args.self.now.sound
    (sym c.is_apart.ensures ∙ c.if-is_apart.false)
    (subst (λ p. Makes (Remove p) (g.C.Calls.history c.args.self.now.calls) new) c.of-path.ensures
    (subst (λ k. Makes (Remove c.of-path.result) (g.C.Calls.history k) new) c.note.ensures.same c.in-Ok.ensures.ok))

pub returns-in-Err-NotFound-clause-there : goal.returns-in-Err-NotFound-clause-there
returns-in-Err-NotFound-clause-there g c =
    none_absent c.args.name.now (g.C.Calls.history c.args.self.now.calls) c.args.self.now.changed c.args.self.now.is_settled c.args.self.now.sound
    (sym c.is_apart.ensures ∙ c.if-is_apart.false)
    (subst (λ p. IfSome (g.C.Calls.history c.args.self.now.calls) (λ r. (names_now r).files p ≡ None)) c.of-path.ensures
    (subst (λ k. IfSome (g.C.Calls.history k) (λ r. (names_now r).files c.of-path.result ≡ None)) c.note.ensures.same
    (if_given _ _ (g.C.Calls.history c.note.new.self.calls) c.in-Err-NotFound.ensures.absent (search rules))))
