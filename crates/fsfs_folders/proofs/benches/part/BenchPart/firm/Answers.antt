use Rattle.std.proofs.Common.{◌≡◌, rules, true, refl, sym, ap, ◌∙◌}
use Rattle.fsfs_folders.proofs.PutLemmas.{on_ok}
use Rattle.fsfs_folders.proofs.BenchTold.{synced_told, sync_spoils, sync_others, sync_firm, sync_short, sync_kept}
use Rattle.fsfs_folders.proofs.benches.part.BenchPart.firm.Goals as goal

pub invariant_of-self : goal.invariant_of-self
invariant_of-self g c =
    let old = g.C.Calls.history c.args.self.now.calls in
    let new = g.C.Calls.history c.sync_in-synced.new.calls in
    record {
      short = sync_short c.sync_in-synced.result c.args.file.now old new c.sync_in-synced.ensures.ok c.sync_in-synced.ensures.err c.args.self.now.short;
      kept = λ k. sync_kept c.sync_in-synced.result c.args.file.now old new c.sync_in-synced.ensures.ok (sym c.is_err-self.ensures.value ∙ k) (c.args.self.now.kept c.if-self.false);
      named = refl {a = true};
    }

pub returns-clause-ok : goal.returns-clause-ok
returns-clause-ok g c = on_ok c.sync_in-synced.result (synced_told c.args.file.now (g.C.Calls.history c.args.self.now.calls) (g.C.Calls.history c.sync_in-synced.new.calls)) c.sync_in-synced.ensures.ok

pub returns-clause-err : goal.returns-clause-err
returns-clause-err g c = sync_spoils c.sync_in-synced.result c.args.file.now (g.C.Calls.history c.args.self.now.calls) (g.C.Calls.history c.sync_in-synced.new.calls) c.sync_in-synced.ensures.err

pub returns-clause-firm : goal.returns-clause-firm
returns-clause-firm g c =
    on_ok c.sync_in-synced.result (sync_firm c.args.file.now (g.C.Calls.history c.args.self.now.calls) (g.C.Calls.history c.sync_in-synced.new.calls) (c.args.self.now.kept c.if-self.false)) c.sync_in-synced.ensures.ok

pub returns-clause-others : goal.returns-clause-others
returns-clause-others g c =
    sync_others c.sync_in-synced.result c.args.file.now (g.C.Calls.history c.args.self.now.calls) (g.C.Calls.history c.sync_in-synced.new.calls) c.sync_in-synced.ensures.ok c.sync_in-synced.ensures.err
