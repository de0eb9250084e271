use Rattle.std.proofs.Common.{◌++◌, inl, inr, refl}
use Rattle.fsfs_disk.specs.Trace.{Adopt}
use Rattle.fsfs_disk.specs.Benches.{bytes_on, removed}
use Rattle.fsfs_disk.proofs.BenchLemmas.{firm_file}
use Rattle.fsfs_disk.proofs.TraceLemmas.{fails_to_adopt}
use Rattle.fsfs_disk.proofs.PublishLemmas.{ends_same, there_filled, adopted_text, performed_text, named_by}
use Rattle.fsfs_disk.proofs.publishing.write_and_name.Goals as goal

pub returns-in_default-clause-ended : goal.returns-in_default-clause-ended
returns-in_default-clause-ended g c = ends_same c.args.to.now (c.args.first.now ++ c.args.second.now) (g.D.Disk.trace c.args.disk.now) (g.D.Disk.trace c.args.disk.now) refl

pub adopt-requires-clause-firm : goal.adopt-requires-clause-firm
adopt-requires-clause-firm g c =
    let contents = g.D.Bench.Bench.contents c.fill.new.bench in
    firm_file contents c.args.file.now (g.D.Bench.Bench.firm_to c.fill.new.bench c.args.file.now)
    (there_filled (g.D.Bench.Bench.contents c.args.bench.now) contents c.args.file.now (c.args.first.now ++ c.args.second.now) c.in-Ok.ensures.files) c.in-Ok.ensures.firm

pub returns-in_default-adopt-clause-ended : goal.returns-in_default-adopt-clause-ended
returns-in_default-adopt-clause-ended g c =
    let contents = g.D.Bench.Bench.contents c.fill.new.bench in
    let old = g.D.Disk.trace c.args.disk.now in
    let new = g.D.Disk.trace c.adopt.new.self in (
      new,
      adopted_text c.args.to.now c.args.file.now (c.args.first.now ++ c.args.second.now) (g.D.Bench.Bench.contents c.args.bench.now) contents old new c.in-Ok.ensures.files c.requires.new (g.met.D.Disk.benches_tell c.args.disk.now c.fill.new.bench)
          (fails_to_adopt (Adopt c.args.to.now (bytes_on contents c.args.file.now)) old new (removed c.args.file.now) contents (g.D.Bench.Bench.contents c.adopt.new.bench) c.in_default-adopt.ensures.err),
      inl refl,
    )

pub returns-in-Ok-firm_names-clause-named : goal.returns-in-Ok-firm_names-clause-named
returns-in-Ok-firm_names-clause-named g c =
    let contents = g.D.Bench.Bench.contents c.fill.new.bench in
    let old = g.D.Disk.trace c.args.disk.now in
    let mid = g.D.Disk.trace c.adopt.new.self in
    named_by c.args.to.now (c.args.first.now ++ c.args.second.now) old mid (g.D.Disk.trace c.firm_names.new.self)
    (performed_text c.args.to.now c.args.file.now (c.args.first.now ++ c.args.second.now) (g.D.Bench.Bench.contents c.args.bench.now) contents old mid c.in-Ok.ensures.files c.requires.new (g.met.D.Disk.benches_tell c.args.disk.now c.fill.new.bench) c.in-Ok-adopt.ensures.ok)
    c.in-Ok-firm_names.ensures.ok

pub returns-in-Ok-firm_names-clause-ended : goal.returns-in-Ok-firm_names-clause-ended
returns-in-Ok-firm_names-clause-ended g c =
    let contents = g.D.Bench.Bench.contents c.fill.new.bench in
    let old = g.D.Disk.trace c.args.disk.now in
    let mid = g.D.Disk.trace c.adopt.new.self in (
      mid,
      inr (inr (performed_text c.args.to.now c.args.file.now (c.args.first.now ++ c.args.second.now) (g.D.Bench.Bench.contents c.args.bench.now) contents old mid c.in-Ok.ensures.files c.requires.new (g.met.D.Disk.benches_tell c.args.disk.now c.fill.new.bench) c.in-Ok-adopt.ensures.ok)),
      inr (inr c.in-Ok-firm_names.ensures.ok),
    )

pub returns-in-Err-clause-ended : goal.returns-in-Err-clause-ended
returns-in-Err-clause-ended g c =
    let contents = g.D.Bench.Bench.contents c.fill.new.bench in
    let old = g.D.Disk.trace c.args.disk.now in
    let mid = g.D.Disk.trace c.adopt.new.self in (
      mid,
      inr (inr (performed_text c.args.to.now c.args.file.now (c.args.first.now ++ c.args.second.now) (g.D.Bench.Bench.contents c.args.bench.now) contents old mid c.in-Ok.ensures.files c.requires.new (g.met.D.Disk.benches_tell c.args.disk.now c.fill.new.bench) c.in-Ok-adopt.ensures.ok)),
      c.in-Err.ensures.err,
    )
