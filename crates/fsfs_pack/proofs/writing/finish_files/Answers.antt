use Rattle.std.proofs.Common.{length, sym, subst}
use Rattle.fsfs_layout.specs.Manifest.{IsManifest}
use Rattle.fsfs_pack.proofs.BenchFiles.{pack_finished, manifest_finished, firm_finished}
use Rattle.fsfs_pack.proofs.writing.finish_files.Goals as goal

pub returns-clause-pack : goal.returns-clause-pack
returns-clause-pack g c = λ bytes has.
    pack_finished c.firm_file-2.result (g.N.Bench.contents c.args.bench.now) (g.N.Bench.contents c.write.new.self) (g.N.Bench.contents c.firm_file.new.bench) (g.N.Bench.contents c.firm_file-2.new.bench) (g.N.Bench.firm_to c.firm_file.new.bench) (g.N.Bench.firm_to c.firm_file-2.new.bench)
    c.pack_file.result c.manifest_file.result c.manifest_file-2.result c.deref.result.now bytes c.pack_file.ensures c.manifest_file.ensures c.manifest_file-2.ensures c.in-Ok-write.ensures.ok c.in_ok-firm_file.ensures.same c.in_ok-firm_file.ensures.firm c.firm_file-2.ensures.same c.firm_file-2.ensures.others has

pub returns-clause-manifest : goal.returns-clause-manifest
returns-clause-manifest g c =
    manifest_finished c.firm_file-2.result (g.N.Bench.contents c.args.bench.now) (g.N.Bench.contents c.write.new.self) (g.N.Bench.contents c.firm_file.new.bench) (g.N.Bench.contents c.firm_file-2.new.bench)
    c.manifest_file.result c.deref.result.now (length c.args.offsets.now) c.args.offsets.now c.manifest_file.ensures c.in-Ok-write.ensures.ok c.in_ok-firm_file.ensures.same c.firm_file-2.ensures.same (subst (λ t. IsManifest (length c.args.offsets.now) t c.args.offsets.now) (sym c.deref.ensures.value) c.in-Ok.ensures.grammar)

pub returns-clause-firm : goal.returns-clause-firm
returns-clause-firm g c =
    firm_finished c.firm_file-2.result (g.N.Bench.contents c.args.bench.now) (g.N.Bench.contents c.write.new.self) (g.N.Bench.contents c.firm_file.new.bench) (g.N.Bench.contents c.firm_file-2.new.bench) (g.N.Bench.firm_to c.firm_file-2.new.bench)
    c.manifest_file.result c.manifest_file-2.result c.deref.result.now c.manifest_file.ensures c.manifest_file-2.ensures c.in-Ok-write.ensures.ok c.in_ok-firm_file.ensures.same c.firm_file-2.ensures.firm
