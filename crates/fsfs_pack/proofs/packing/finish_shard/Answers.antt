use Rattle.std.proofs.Common.{◌+◌, sym, ◌∙◌, arith}
use Rattle.fsfs_layout.specs.Layouts.{shard_size}
use Rattle.fsfs_pack.proofs.Ending.{stopped_at, ends_packed}
use Rattle.fsfs_pack.proofs.Going.{layout_stays}
use Rattle.fsfs_pack.proofs.packing.finish_shard.Goals as goal

pub remove_old-requires : goal.remove_old-requires
remove_old-requires g c = record {
  due = λ bound.
      let w = c.requires.due (sym c.in-Ok.ensures.duty ∙ bound) in
      let r = (c.in-Ok.ensures.turned w.0 w.1 w.2 w.3 w.4).done in
      (r.0, c.args.shard.now.first + shard_size c.args.shard.now.layout, r.1, r.2.section, r.2.firm, omega (arith, c.requires.shard.next), w.3.layout ∙ sym (layout_stays w.0 r.0 r.2.along));
}

pub returns-in-Ok-clause-turned : goal.returns-in-Ok-clause-turned
returns-in-Ok-clause-turned g c = λ v known may next written.
    let r = (c.in-Ok.ensures.turned v known may next written).done in
    let m = c.remove_old.ensures.turned r.0 (c.args.shard.now.first + shard_size c.args.shard.now.layout) r.1 r.2.section r.2.firm (omega (arith, c.requires.shard.next)) (next.layout ∙ sym (layout_stays v r.0 r.2.along)) in
    (m.0, m.1, ends_packed c.args.shard.now c.remove_old.result v r.0 m.0 c.requires.shard r.2 m.2)

pub returns-in-Err-clause-turned : goal.returns-in-Err-clause-turned
returns-in-Err-clause-turned g c = λ v known may next written. let r = (c.in-Err.ensures.turned v known may next written).failed in (r.0, r.1, stopped_at c.in-Err.place v r.0 r.2)
