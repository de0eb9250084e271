use Rattle.std.proofs.Common.{◌≡◌, rules, sym, subst, ◌∙◌, arith}
use Rattle.std.specs.Prelude.{length, Some, None, IfSome}
use Rattle.fsfs_folders.proofs.PutLemmas.{if_given}
use Rattle.fsfs_folders.proofs.BenchWriting.{synced_ok, synced_err, synced_none}
use Rattle.fsfs_folders.proofs.benches.bench_files.sync_in.Goals as goal

pub returns-in-Ok-clause-ok : goal.returns-in-Ok-clause-ok
returns-in-Ok-clause-ok g c =
    synced_ok c.args.name.now c.requires c.of.result (g.C.File.OpenFile.number c.in-Ok.file) (g.C.Calls.history c.args.calls.now) (g.C.Calls.history c.open_to_sync.new.calls) (g.C.Calls.history c.sync_file.new.self) c.sync_file.result
    c.of.ensures c.open_to_sync.ensures.same c.in-Ok.ensures.there c.sync_file.ensures.ok

pub returns-in-Ok-clause-err : goal.returns-in-Ok-clause-err
returns-in-Ok-clause-err g c =
    synced_err c.args.name.now c.requires c.of.result (g.C.File.OpenFile.number c.in-Ok.file) (g.C.Calls.history c.args.calls.now) (g.C.Calls.history c.open_to_sync.new.calls) (g.C.Calls.history c.sync_file.new.self) c.sync_file.result
    c.of.ensures c.open_to_sync.ensures.same c.in-Ok.ensures.there c.sync_file.ensures.err

pub returns-in-Err-NotFound-clause-ok : goal.returns-in-Err-NotFound-clause-ok
returns-in-Err-NotFound-clause-ok g c =
    let old = g.C.Calls.history c.args.calls.now in
    synced_none c.args.name.now c.requires c.of.result old (g.C.Calls.history c.open_to_sync.new.calls) c.of.ensures (if_given _ _ old c.in-Err-NotFound.ensures.absent (search rules)) c.open_to_sync.ensures.same
