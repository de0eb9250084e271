use Rattle.std.proofs.Common.{◌≡◌, rules, sym, subst, ◌∙◌, arith}
use Rattle.std.specs.Prelude.{length, Some, None, IfSome}
use Rattle.fsfs_folders.proofs.PutLemmas.{on_ok}
use Rattle.fsfs_folders.proofs.BenchWriting.{written_new_at, written_either, made_any_at}
use Rattle.fsfs_folders.proofs.benches.bench_files.write_to.Goals as goal

pub returns-in_err-file-clause-any : goal.returns-in_err-file-clause-any
returns-in_err-file-clause-any g c =
    made_any_at c.args.name.now c.requires c.of.result (g.C.Calls.history c.args.calls.now) (g.C.Calls.history c.remove_from.new.calls) (g.C.Calls.history c.create.new.self) c.of.ensures
    (search rules) c.in_err-file.ensures.err

pub returns-clause-ok : goal.returns-clause-ok
returns-clause-ok g c =
    let n = g.C.File.OpenFile.number c.in_ok-file.file in
    on_ok c.append_all.result (written_new_at c.args.name.now c.requires c.of.result n c.args.bytes.now (g.C.Calls.history c.args.calls.now) (g.C.Calls.history c.remove_from.new.calls) (g.C.Calls.history c.create.new.self) (g.C.Calls.history c.append_all.new.calls)
    c.of.ensures (search rules) c.in_ok-file.ensures.ok c.in_ok-file.ensures.number) c.append_all.ensures.ok

pub returns-clause-any : goal.returns-clause-any
returns-clause-any g c =
    let n = g.C.File.OpenFile.number c.in_ok-file.file in
    written_either c.args.name.now c.requires c.of.result n c.args.bytes.now (g.C.Calls.history c.args.calls.now) (g.C.Calls.history c.remove_from.new.calls) (g.C.Calls.history c.create.new.self) (g.C.Calls.history c.append_all.new.calls) c.append_all.result
    c.of.ensures (search rules) c.in_ok-file.ensures.ok c.in_ok-file.ensures.number (search rules) c.append_all.ensures.ok c.append_all.ensures.err
