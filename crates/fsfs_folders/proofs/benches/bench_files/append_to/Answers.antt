use Rattle.std.proofs.Common.{length}
use Rattle.fsfs_folders.proofs.BenchWriting.{opens_wrote, opens_any, opens_all, opens_still}
use Rattle.fsfs_folders.proofs.OpenLemmas.{named_in_place}
use Rattle.fsfs_folders.proofs.benches.bench_files.append_to.Goals as goal

pub returns-in_err-append_all-clause-any : goal.returns-in_err-append_all-clause-any
returns-in_err-append_all-clause-any g c =
    let n = g.C.File.OpenFile.number c.in_ok-opened.opened.file in
    opens_any c.args.name.now c.requires.entry n (length c.args.bytes.now) (g.C.Calls.history c.args.calls.now) (g.C.Calls.history c.open_again.new.calls) (g.C.Calls.history c.append_all.new.calls)
    c.in_ok-opened.ensures.ok c.in_err-append_all.ensures.err

pub returns-clause-ok : goal.returns-clause-ok
returns-clause-ok g c =
    let n = g.C.File.OpenFile.number c.in_ok-opened.opened.file in
    opens_wrote c.args.name.now c.requires.entry n (length c.args.bytes.now) c.args.bytes.now (g.C.Calls.history c.args.calls.now) (g.C.Calls.history c.open_again.new.calls) (g.C.Calls.history c.append_all.new.calls)
    c.in_ok-opened.ensures.ok c.in_ok-append_all.ensures.ok

pub returns-clause-any : goal.returns-clause-any
returns-clause-any g c =
    let n = g.C.File.OpenFile.number c.in_ok-opened.opened.file in
    opens_all c.args.name.now c.requires.entry n c.args.bytes.now (g.C.Calls.history c.args.calls.now) (g.C.Calls.history c.open_again.new.calls) (g.C.Calls.history c.append_all.new.calls)
    c.in_ok-opened.ensures.ok c.in_ok-append_all.ensures.ok

pub returns-clause-last : goal.returns-clause-last
returns-clause-last g c =
    let opened = c.in_ok-opened.opened in
    let n = g.C.File.OpenFile.number opened.file in
    let new = g.C.Calls.history c.append_all.new.calls in
    named_in_place (λ it. it.name) (λ it. g.C.File.OpenFile.number it.file) new opened c.args.name.now c.in_ok-opened.ensures.named
    (opens_still c.args.name.now c.requires.entry n (length c.args.bytes.now) c.args.bytes.now (g.C.Calls.history c.args.calls.now) (g.C.Calls.history c.open_again.new.calls) new c.in_ok-opened.ensures.ok c.in_ok-append_all.ensures.ok)
