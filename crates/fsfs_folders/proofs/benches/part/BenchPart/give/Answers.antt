use Rattle.std.proofs.Common.{◌≡◌, rules, true, false, inl, inr, refl, sym, ap, subst, ◌∙◌}
use Rattle.fsfs_folders.proofs.PutLemmas.{on_ok}
use Rattle.fsfs_folders.proofs.BenchTold.{any_short, any_kept}
use Rattle.fsfs_folders.proofs.Adopting.{given_any, given_gone, given_others, gives_told_err}
use Rattle.fsfs_folders.proofs.benches.part.BenchPart.give.Goals as goal

pub invariant_of-self : goal.invariant_of-self
invariant_of-self g c =
    let old = g.C.Calls.history c.args.self.now.calls in
    let new = g.C.Calls.history c.adopt.new.part in
    let any = given_any c.adopt.result c.args.file.now c.args.to.now (g.C.Calls.history c.args.folders.now.calls) old (g.C.Calls.history c.adopt.new.self.calls) new c.adopt.ensures.ok c.adopt.ensures.err in
    record {
      short = any_short c.args.file.now old new any c.args.self.now.short;
      kept = λ k. any_kept c.args.file.now old new any (c.args.self.now.kept k);
      named = refl {a = true};
    }

pub returns-clause-ok : goal.returns-clause-ok
returns-clause-ok g c = on_ok c.adopt.result (λ a. a.0) c.adopt.ensures.ok

pub returns-clause-gone : goal.returns-clause-gone
returns-clause-gone g c =
    on_ok c.adopt.result (given_gone c.args.file.now c.args.to.now (g.C.Calls.history c.args.folders.now.calls) (g.C.Calls.history c.args.self.now.calls) (g.C.Calls.history c.adopt.new.self.calls) (g.C.Calls.history c.adopt.new.part)) c.adopt.ensures.ok

pub returns-clause-err : goal.returns-clause-err
returns-clause-err g c =
    gives_told_err c.adopt.result c.args.file.now c.args.to.now (g.C.Calls.history c.args.folders.now.calls) (g.C.Calls.history c.args.self.now.calls) (g.C.Calls.history c.adopt.new.self.calls) (g.C.Calls.history c.adopt.new.part) c.adopt.ensures.err

pub returns-clause-others : goal.returns-clause-others
returns-clause-others g c =
    given_others c.adopt.result c.args.file.now c.args.to.now (g.C.Calls.history c.args.folders.now.calls) (g.C.Calls.history c.args.self.now.calls) (g.C.Calls.history c.adopt.new.self.calls) (g.C.Calls.history c.adopt.new.part) c.adopt.ensures.ok c.adopt.ensures.err
