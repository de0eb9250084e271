use Rattle.std.proofs.Common.{◌≡◌, rules, true, refl, sym, ap, ◌∙◌}
use Rattle.fsfs_folders.proofs.PutLemmas.{on_ok}
use Rattle.fsfs_folders.proofs.WritingLemmas.{on_err}
use Rattle.fsfs_folders.proofs.BenchTold.{any_short, any_kept, any_others, spoils_told, removed_told, firm_removed, there_told}
use Rattle.fsfs_folders.proofs.benches.part.BenchPart.remove.Goals as goal

pub invariant_of-self : goal.invariant_of-self
invariant_of-self g c =
    let old = g.C.Calls.history c.args.self.now.calls in
    let new = g.C.Calls.history c.remove_from.new.calls in
    record {
      short = any_short c.args.file.now old new c.remove_from.ensures.any c.args.self.now.short;
      kept = λ k. any_kept c.args.file.now old new c.remove_from.ensures.any (c.args.self.now.kept k);
      named = refl {a = true};
    }

pub returns-clause-ok : goal.returns-clause-ok
returns-clause-ok g c = on_ok c.remove_from.result (removed_told c.args.file.now (g.C.Calls.history c.args.self.now.calls) (g.C.Calls.history c.remove_from.new.calls)) c.remove_from.ensures.ok

pub returns-clause-err : goal.returns-clause-err
returns-clause-err g c = on_err c.remove_from.result (spoils_told c.args.file.now (g.C.Calls.history c.args.self.now.calls) (g.C.Calls.history c.remove_from.new.calls) c.remove_from.ensures.any)

pub returns-clause-others : goal.returns-clause-others
returns-clause-others g c = any_others c.args.file.now (g.C.Calls.history c.args.self.now.calls) (g.C.Calls.history c.remove_from.new.calls) c.remove_from.ensures.any

pub returns-clause-firm : goal.returns-clause-firm
returns-clause-firm g c = on_ok c.remove_from.result (firm_removed c.args.file.now (g.C.Calls.history c.args.self.now.calls) (g.C.Calls.history c.remove_from.new.calls)) c.remove_from.ensures.ok

pub returns-clause-there : goal.returns-clause-there
returns-clause-there g c = there_told c.remove_from.result c.args.file.now (g.C.Calls.history c.args.self.now.calls) c.remove_from.ensures.there
