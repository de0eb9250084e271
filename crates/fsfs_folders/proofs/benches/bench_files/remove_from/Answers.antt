use Rattle.std.proofs.Common.{◌≡◌, rules, sym, subst, ◌∙◌, arith}
use Rattle.std.specs.Prelude.{length, Some, None, IfSome}
use Rattle.fsfs_folders.proofs.PutLemmas.{if_given}
use Rattle.fsfs_folders.proofs.BenchWriting.{gone_any, gone_none, gone_failed_any}
use Rattle.fsfs_folders.proofs.benches.bench_files.remove_from.Goals as goal

pub returns-in-Ok-clause-any : goal.returns-in-Ok-clause-any
returns-in-Ok-clause-any g c =
    gone_any c.args.name.now c.requires c.of.result (g.C.Calls.history c.args.calls.now) (g.C.Calls.history c.remove.new.self) c.of.ensures c.in-Ok.ensures.ok

pub returns-in-Err-NotFound-clause-ok : goal.returns-in-Err-NotFound-clause-ok
returns-in-Err-NotFound-clause-ok g c =
    let old = g.C.Calls.history c.args.calls.now in
    gone_none c.args.name.now c.requires c.of.result old (g.C.Calls.history c.remove.new.self) c.of.ensures (if_given _ _ old c.in-Err-NotFound.ensures.absent (search rules)) (c.in-Err-NotFound.ensures.same (search rules))

pub returns-in-Err-clause-any : goal.returns-in-Err-clause-any
returns-in-Err-clause-any g c =
    gone_failed_any c.args.name.now c.requires c.of.result (g.C.Calls.history c.args.calls.now) (g.C.Calls.history c.remove.new.self) c.of.ensures c.in-Err.ensures.err
