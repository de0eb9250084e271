use Rattle.std.proofs.Common.{rules, sym, subst, ◌∙◌}
use Rattle.std.specs.Prelude.{◌≤◌, ◌+◌, ◌^◌, length, IfSome}
use Rattle.fsfs_folders.specs.System.CallRecord.{contents_now}
use Rattle.fsfs_folders.specs.BenchFiles.{Opens}
use Rattle.fsfs_folders.proofs.OpenLemmas.{named_as}
use Rattle.fsfs_folders.proofs.PutLemmas.{if_given}
use Rattle.fsfs_folders.proofs.BenchWriting.{opened, made_open_ok, made_failed_err}
use Rattle.fsfs_folders.proofs.benches.bench_files.open_for.Goals as goal

pub returns-in_ok-check_room-in-Ok-clause-ok : goal.returns-in_ok-check_room-in-Ok-clause-ok
returns-in_ok-check_room-in-Ok-clause-ok g c =
    let old = g.C.Calls.history c.args.calls.now in
    let n = g.C.File.OpenFile.number c.in-Ok.file in
    subst (λ o. Opens c.args.name.now n c.args.more old o) (sym (c.in_ok-check_room-in-Ok.ensures.same ∙ c.open_to_append.ensures.same))
    (opened c.args.name.now c.requires.entry n c.args.more old (named_as n c.of-path.result c.args.name.now old c.of-path.ensures c.in-Ok.ensures.there)
    (subst (λ o. IfSome o (λ r. length (contents_now r n).bytes + c.args.more ≤ 2 ^ 62)) c.open_to_append.ensures.same c.in_ok-check_room-in-Ok.ensures.room))

pub returns-in-Err-NotFound-clause-ok : goal.returns-in-Err-NotFound-clause-ok
returns-in-Err-NotFound-clause-ok g c =
    let old = g.C.Calls.history c.args.calls.now in
    made_open_ok c.args.name.now c.requires.entry g.C.File.OpenFile.number c.args.more c.of-path.result old (g.C.Calls.history c.open_to_append.new.self) (g.C.Calls.history c.create.new.self) c.create.result
    c.of-path.ensures c.open_to_append.ensures.same (if_given _ _ old c.in-Err-NotFound.ensures.absent (search rules)) c.create.ensures.ok c.create.ensures.number c.requires.fits

pub returns-in-Err-NotFound-clause-err : goal.returns-in-Err-NotFound-clause-err
returns-in-Err-NotFound-clause-err g c =
    let old = g.C.Calls.history c.args.calls.now in
    made_failed_err c.args.name.now c.requires.entry c.of-path.result old (g.C.Calls.history c.open_to_append.new.self) (g.C.Calls.history c.create.new.self) c.create.result
    c.of-path.ensures c.open_to_append.ensures.same (if_given _ _ old c.in-Err-NotFound.ensures.absent (search rules)) c.create.ensures.err
