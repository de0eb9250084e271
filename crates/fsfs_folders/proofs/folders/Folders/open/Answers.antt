use Rattle.std.proofs.Common.{◌≡◌, refl, sym, subst, ◌∙◌}
use Rattle.std.specs.Prelude.{Some, None, IfSome, MatchOption}
use Rattle.fsfs_folders.specs.System.CallRecord.{names_now}
use Rattle.fsfs_folders.proofs.FolderCalls.{told_apart}
use Rattle.fsfs_folders.proofs.OpenLemmas.{none_told}
use Rattle.fsfs_folders.proofs.folders.Folders.open.Goals as goal

pub returns-then-is_apart-clause-found : goal.returns-then-is_apart-clause-found
returns-then-is_apart-clause-found g c =
    told_apart (λ f. f ≡ None) c.args.name.now (g.C.Calls.history c.args.self.now.calls) c.args.self.now.changed c.args.self.now.is_settled c.args.self.now.sound
    (sym c.is_apart.ensures ∙ c.if-is_apart.true) refl

pub returns-in-None-clause-found : goal.returns-in-None-clause-found
returns-in-None-clause-found g c =
    let calls = g.C.Calls.history c.args.self.now.calls in
    let path = c.of.result in
    none_told calls c.args.self.now.changed c.args.self.now.is_settled path c.args.name.now c.args.self.now.sound (sym c.is_apart.ensures ∙ c.if-is_apart.false) c.of.ensures
    (subst (λ f. IfSome calls (λ r. MatchOption f ((names_now r).files path ≡ None) (λ file. (names_now r).files path ≡ Some (g.C.File.OpenFile.number file)))) c.in-None.is c.in_ok-file.ensures.there)
