use Rattle.std.proofs.Common.{refl, sym, ◌∙◌}
use Rattle.fsfs_base.specs.declared.places.place.DiskPlace.TheVariants.{Pack}
use Rattle.fsfs_base.specs.declared.places.place.PackPlace.TheVariants as place
use Rattle.fsfs_machine.specs.declared.machine.Section.TheVariants as section
use Rattle.fsfs_machine.specs.declared.machine.Went.TheVariants.{Before}
use Rattle.fsfs_turn.specs.Views.{pack_name, shard_parts}
use Rattle.fsfs_pack.specs.Copies.{together}
use Rattle.fsfs_pack.specs.Sections.{manifest_text}
use Rattle.fsfs_pack.proofs.Going.{pack_done, pack_ill, went_well, went_ill, pack_due, pack_due_first, beside_left, firm_left, not_pack}
use Rattle.fsfs_pack.proofs.section.adopt_pack.Goals as goal

pub make_pack_folder-requires : goal.make_pack_folder-requires
make_pack_folder-requires g c = record {
  due = λ bound.
      let w = c.requires.due bound in
      (w.0, Pack place.AdoptPack, pack_name w.0 c.args.shard.now.first, together (shard_parts w.0 c.args.shard.now.first), w.1, pack_due_first c.args.shard.now w.0 w.2 w.3);
}

pub returns-in-Err-clause-turned : goal.returns-in-Err-clause-turned
returns-in-Err-clause-turned g c = λ v known may next written.
    let f = c.in-Err.ensures.failed v (Pack place.AdoptPack) (pack_name v c.args.shard.now.first) (together (shard_parts v c.args.shard.now.first)) known (pack_due_first c.args.shard.now v may next) in
    went_ill (g.T.Turns.knows c.make_pack_folder.new.self) place.AdoptPack section.PackPut c.args.shard.now.first v (pack_ill v (g.T.Turns.knows c.make_pack_folder.new.self) may (f.0, Before, f.1, refl, f.2))

pub adopt_part-requires-clause-due : goal.adopt_part-requires-clause-due
adopt_part-requires-clause-due g c = λ bound.
    let w = c.requires.due (sym c.in-Ok.ensures.duty ∙ bound) in
    (w.0, Pack place.AdoptPack, c.in-Ok.ensures.done w.0 w.1, pack_due c.args.shard.now w.0 (g.T.Bench.Bench.contents c.args.bench.now) c.name-name.result c.pack_file.result c.number-2.result w.2 w.3 w.4 (g.met.T.Turns.benches_tell c.args.turns.now w.0 c.args.bench.now w.1) c.name-name.ensures c.number-2.ensures c.pack_file.ensures)

pub returns-in-Ok-adopt_part-clause-turned : goal.returns-in-Ok-adopt_part-clause-turned
returns-in-Ok-adopt_part-clause-turned g c = λ v known may next written.
    let due = pack_due c.args.shard.now v (g.T.Bench.Bench.contents c.args.bench.now) c.name-name.result c.pack_file.result c.number-2.result may next written (g.met.T.Turns.benches_tell c.args.turns.now v c.args.bench.now known) c.name-name.ensures c.number-2.ensures c.pack_file.ensures in
    went_well (g.T.Turns.knows c.adopt_part.new.self) section.PackPut c.args.shard.now.first v (pack_done v c.args.shard.now.first (g.T.Turns.knows c.adopt_part.new.self) may next.full.firm (c.in-Ok-adopt_part.ensures.turned v (Pack place.AdoptPack) (c.in-Ok.ensures.done v known) due))

pub returns-in-Err-adopt_part-clause-turned : goal.returns-in-Err-adopt_part-clause-turned
returns-in-Err-adopt_part-clause-turned g c = λ v known may next written.
    let due = pack_due c.args.shard.now v (g.T.Bench.Bench.contents c.args.bench.now) c.name-name.result c.pack_file.result c.number-2.result may next written (g.met.T.Turns.benches_tell c.args.turns.now v c.args.bench.now known) c.name-name.ensures c.number-2.ensures c.pack_file.ensures in
    went_ill (g.T.Turns.knows c.adopt_part.new.self) place.AdoptPack section.PackPut c.args.shard.now.first v (pack_ill v (g.T.Turns.knows c.adopt_part.new.self) may (c.in-Err-adopt_part.ensures.turned v (Pack place.AdoptPack) (c.in-Ok.ensures.done v known) due))

pub returns-in-Ok-adopt_part-clause-beside : goal.returns-in-Ok-adopt_part-clause-beside
returns-in-Ok-adopt_part-clause-beside g c = λ text has. beside_left (g.T.Bench.Bench.contents c.args.bench.now) (g.T.Bench.Bench.contents c.adopt_part.new.bench) c.pack_file.result text c.pack_file.ensures c.in-Ok-adopt_part.ensures.gone has

pub returns-in-Ok-adopt_part-clause-firm_beside : goal.returns-in-Ok-adopt_part-clause-firm_beside
returns-in-Ok-adopt_part-clause-firm_beside g c = λ firm.
    firm_left (g.T.Bench.Bench.contents c.args.bench.now) (g.T.Bench.Bench.contents c.adopt_part.new.bench) (g.T.Bench.Bench.firm_to c.args.bench.now manifest_text) (g.T.Bench.Bench.firm_to c.adopt_part.new.bench manifest_text) c.pack_file.result c.pack_file.ensures c.in-Ok-adopt_part.ensures.gone (c.adopt_part.ensures.others manifest_text (not_pack c.pack_file.result c.pack_file.ensures)) firm
