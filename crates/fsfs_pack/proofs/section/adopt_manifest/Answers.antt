use Rattle.std.proofs.Common.{refl}
use Rattle.fsfs_base.specs.declared.places.place.DiskPlace.TheVariants.{Pack}
use Rattle.fsfs_base.specs.declared.places.place.PackPlace.TheVariants as place
use Rattle.fsfs_machine.specs.declared.machine.Section.TheVariants as section
use Rattle.fsfs_pack.proofs.Going.{done, ill, went_well, went_ill, manifest_due}
use Rattle.fsfs_pack.proofs.section.adopt_manifest.Goals as goal

pub adopt_part-requires-clause-due : goal.adopt_part-requires-clause-due
adopt_part-requires-clause-due g c = λ bound.
    let w = c.requires.due bound in
    (w.0, Pack place.AdoptManifest, w.1, manifest_due c.args.shard.now w.0 (g.T.Bench.Bench.contents c.args.bench.now) c.name-name.result c.manifest_file.result c.number.result w.2 w.3 w.4 (g.met.T.Turns.benches_tell c.args.turns.now w.0 c.args.bench.now w.1) c.name-name.ensures c.number.ensures c.manifest_file.ensures)

pub returns-in-Ok-clause-turned : goal.returns-in-Ok-clause-turned
returns-in-Ok-clause-turned g c = λ v known at next has.
    let due = manifest_due c.args.shard.now v (g.T.Bench.Bench.contents c.args.bench.now) c.name-name.result c.manifest_file.result c.number.result at next has (g.met.T.Turns.benches_tell c.args.turns.now v c.args.bench.now known) c.name-name.ensures c.number.ensures c.manifest_file.ensures in
    went_well (g.T.Turns.knows c.adopt_part.new.self) section.ManifestPut c.args.shard.now.first v (done section.PackPut (Pack place.AdoptManifest) v at (λ went given. refl) section.ManifestPut c.args.shard.now.first c.args.shard.now.first (g.T.Turns.knows c.adopt_part.new.self) next.full.firm refl refl (c.in-Ok.ensures.turned v (Pack place.AdoptManifest) known due))

pub returns-in-Err-clause-turned : goal.returns-in-Err-clause-turned
returns-in-Err-clause-turned g c = λ v known at next has.
    let due = manifest_due c.args.shard.now v (g.T.Bench.Bench.contents c.args.bench.now) c.name-name.result c.manifest_file.result c.number.result at next has (g.met.T.Turns.benches_tell c.args.turns.now v c.args.bench.now known) c.name-name.ensures c.number.ensures c.manifest_file.ensures in
    went_ill (g.T.Turns.knows c.adopt_part.new.self) place.AdoptManifest section.ManifestPut c.args.shard.now.first v (ill section.PackPut (Pack place.AdoptManifest) v at (λ went given. refl) (g.T.Turns.knows c.adopt_part.new.self) section.Over refl (c.in-Err.ensures.turned v (Pack place.AdoptManifest) known due))
