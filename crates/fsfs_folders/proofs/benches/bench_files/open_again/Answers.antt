use Rattle.std.proofs.Common.{rules, sym, subst}
use Rattle.fsfs_folders.specs.BenchFiles.{Opens}
use Rattle.fsfs_folders.proofs.BenchWriting.{opened}
use Rattle.fsfs_folders.proofs.OpenLemmas.{in_place_named}
use Rattle.fsfs_folders.proofs.benches.bench_files.open_again.Goals as goal

pub returns-clause-ok : goal.returns-clause-ok
returns-clause-ok g c =
    let old = g.C.Calls.history c.args.calls.now in
    let n = g.C.File.OpenFile.number c.in-Some.opened.file in
    subst (λ o. Opens c.args.name.now n c.args.more old o) (sym c.in_ok-check_room.ensures.same)
    (opened c.args.name.now c.requires.entry n c.args.more old
    (in_place_named (λ it. it.name) (λ it. g.C.File.OpenFile.number it.file) old c.in-Some.opened c.args.name.now c.args.last (search rules) (search rules) c.requires.last) c.in_ok-check_room.ensures.room)
