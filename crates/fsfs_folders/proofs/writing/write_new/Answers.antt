use Rattle.fsfs_folders.proofs.PutLemmas.{on_ok, written_beside, made_err, made_wrote_err, made_synced}
use Rattle.std.specs.Prelude.{length}
use Rattle.fsfs_folders.proofs.writing.write_new.Goals as goal

pub returns-in_err-append_all-clause-made : goal.returns-in_err-append_all-clause-made
returns-in_err-append_all-clause-made g c =
    made_wrote_err c.args.path.now (length c.args.bytes.now) (g.C.File.OpenFile.number c.in_ok-file.file) (g.C.Calls.history c.args.calls.now) (g.C.Calls.history c.create.new.self) (g.C.Calls.history c.append_all.new.calls)
    c.in_ok-file.ensures.ok c.in_ok-file.ensures.number c.in_err-append_all.ensures.err

pub returns-clause-made : goal.returns-clause-made
returns-clause-made g c =
    made_synced c.sync_file.result c.args.path.now c.args.bytes.now (g.C.File.OpenFile.number c.in_ok-file.file)
    (g.C.Calls.history c.args.calls.now) (g.C.Calls.history c.create.new.self) (g.C.Calls.history c.append_all.new.calls) (g.C.Calls.history c.sync_file.new.self)
    c.in_ok-file.ensures.ok c.in_ok-file.ensures.number c.in_ok-append_all.ensures.ok c.sync_file.ensures.ok c.sync_file.ensures.err

pub returns-clause-written : goal.returns-clause-written
returns-clause-written g c =
    on_ok c.sync_file.result (λ synced. written_beside c.args.path.now c.args.bytes.now (g.C.File.OpenFile.number c.in_ok-file.file)
    (g.C.Calls.history c.args.calls.now) (g.C.Calls.history c.create.new.self) (g.C.Calls.history c.append_all.new.calls) (g.C.Calls.history c.sync_file.new.self)
    c.in_ok-file.ensures.ok c.in_ok-file.ensures.number c.in_ok-append_all.ensures.ok synced) c.sync_file.ensures.ok
