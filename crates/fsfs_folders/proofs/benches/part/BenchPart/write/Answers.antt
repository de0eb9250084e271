use Rattle.std.proofs.Common.{◌≡◌, rules, true, refl, sym, ap, ◌∙◌}
use Rattle.fsfs_folders.proofs.PutLemmas.{on_ok}
use Rattle.fsfs_folders.proofs.WritingLemmas.{on_err}
use Rattle.fsfs_folders.proofs.BenchTold.{any_short, any_kept, any_others, spoils_told, written_told, firm_written}
use Rattle.fsfs_folders.proofs.benches.part.BenchPart.write.Goals as goal

pub invariant_of-self : goal.invariant_of-self
invariant_of-self g c =
    let old = g.C.Calls.history c.args.self.now.calls in
    let new = g.C.Calls.history c.write_to.new.calls in
    record {
      short = any_short c.args.file.now old new c.write_to.ensures.any c.args.self.now.short;
      kept = λ k. any_kept c.args.file.now old new c.write_to.ensures.any (c.args.self.now.kept k);
      named = refl {a = true};
    }

pub returns-clause-ok : goal.returns-clause-ok
returns-clause-ok g c = on_ok c.write_to.result (written_told c.args.file.now c.args.bytes.now (g.C.Calls.history c.args.self.now.calls) (g.C.Calls.history c.write_to.new.calls)) c.write_to.ensures.ok

pub returns-clause-err : goal.returns-clause-err
returns-clause-err g c = on_err c.write_to.result (spoils_told c.args.file.now (g.C.Calls.history c.args.self.now.calls) (g.C.Calls.history c.write_to.new.calls) c.write_to.ensures.any)

pub returns-clause-others : goal.returns-clause-others
returns-clause-others g c = any_others c.args.file.now (g.C.Calls.history c.args.self.now.calls) (g.C.Calls.history c.write_to.new.calls) c.write_to.ensures.any

pub returns-clause-firm : goal.returns-clause-firm
returns-clause-firm g c = on_ok c.write_to.result (firm_written c.args.file.now c.args.bytes.now (g.C.Calls.history c.args.self.now.calls) (g.C.Calls.history c.write_to.new.calls)) c.write_to.ensures.ok
