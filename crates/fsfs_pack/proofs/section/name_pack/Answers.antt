use Rattle.std.proofs.Common.{Err, sym, ◌∙◌}
use Rattle.fsfs_machine.specs.declared.machine.Section.TheVariants as section
use Rattle.fsfs_pack.proofs.Going.{fails, goes_on, still_due}
use Rattle.fsfs_pack.proofs.section.name_pack.Goals as goal

pub returns-in-Err-clause-turned : goal.returns-in-Err-clause-turned
returns-in-Err-clause-turned g c = λ v known may next written. fails (g.T.Turns.knows c.adopt_pack.new.turns) c.in-Err.place section.PackPut section.PackFirm c.args.shard.now.first c.args.shard.now.first v (c.in-Err.ensures.turned v known may next written)

pub adopt_manifest-requires-clause-due : goal.adopt_manifest-requires-clause-due
adopt_manifest-requires-clause-due g c = λ bound.
    let w = c.requires.due (sym c.in-Ok.ensures.duty ∙ bound) in
    let r = (c.in-Ok.ensures.turned w.0 w.1 w.2 w.3 w.4).done in
    let due = still_due c.args.shard.now w.0 r.0 (g.T.Bench.Bench.contents c.args.bench.now) (g.T.Bench.Bench.contents c.adopt_pack.new.bench) w.3 r.2 w.4 (c.in-Ok.ensures.beside w.4.manifest.text w.4.manifest.there) in
    (r.0, r.1, r.2.section, due.0, due.1)

pub returns-in-Err-adopt_manifest-clause-turned : goal.returns-in-Err-adopt_manifest-clause-turned
returns-in-Err-adopt_manifest-clause-turned g c = λ v known may next written.
    let r = (c.in-Ok.ensures.turned v known may next written).done in
    let due = still_due c.args.shard.now v r.0 (g.T.Bench.Bench.contents c.args.bench.now) (g.T.Bench.Bench.contents c.adopt_pack.new.bench) next r.2 written (c.in-Ok.ensures.beside written.manifest.text written.manifest.there) in
    let now = g.T.Turns.knows c.adopt_manifest.new.turns in
    goes_on now (Err c.in-Err-adopt_manifest.place) section.PackPut section.PackFirm c.args.shard.now.first c.args.shard.now.first v r.0 r.2
    (fails now c.in-Err-adopt_manifest.place section.ManifestPut section.PackFirm c.args.shard.now.first c.args.shard.now.first r.0 (c.in-Err-adopt_manifest.ensures.turned r.0 r.1 r.2.section due.0 due.1))

pub firm_pack-requires : goal.firm_pack-requires
firm_pack-requires g c = record {
  due = λ bound.
      let w = c.requires.due (sym c.in-Ok.ensures.duty ∙ (sym c.in-Ok-adopt_manifest.ensures.duty ∙ bound)) in
      let r = (c.in-Ok.ensures.turned w.0 w.1 w.2 w.3 w.4).done in
      let due = still_due c.args.shard.now w.0 r.0 (g.T.Bench.Bench.contents c.args.bench.now) (g.T.Bench.Bench.contents c.adopt_pack.new.bench) w.3 r.2 w.4 (c.in-Ok.ensures.beside w.4.manifest.text w.4.manifest.there) in
      let q = (c.in-Ok-adopt_manifest.ensures.turned r.0 r.1 r.2.section due.0 due.1).done in
      (q.0, q.1, q.2.section);
}

pub returns-clause-turned : goal.returns-clause-turned
returns-clause-turned g c = λ v known may next written.
    let r = (c.in-Ok.ensures.turned v known may next written).done in
    let due = still_due c.args.shard.now v r.0 (g.T.Bench.Bench.contents c.args.bench.now) (g.T.Bench.Bench.contents c.adopt_pack.new.bench) next r.2 written (c.in-Ok.ensures.beside written.manifest.text written.manifest.there) in
    let q = (c.in-Ok-adopt_manifest.ensures.turned r.0 r.1 r.2.section due.0 due.1).done in
    let now = g.T.Turns.knows c.firm_pack.new.turns in
    goes_on now c.firm_pack.result section.PackPut section.PackFirm c.args.shard.now.first c.args.shard.now.first v r.0 r.2
    (goes_on now c.firm_pack.result section.ManifestPut section.PackFirm c.args.shard.now.first c.args.shard.now.first r.0 q.0 q.2 (c.firm_pack.ensures.turned q.0 c.args.shard.now.first q.1 q.2.section q.2.firm))
