use Rattle.std.proofs.Common.{◌+◌, sym, subst, ◌∙◌}
use Rattle.fsfs_layout.specs.Layouts.{shard_size}
use Rattle.fsfs_layout.specs.Small.{IsRevLine}
use Rattle.fsfs_machine.specs.declared.machine.Section.TheVariants as section
use Rattle.fsfs_pack.specs.Sections.{Goes}
use Rattle.fsfs_pack.proofs.Going.{fails, goes_on, layout_stays, packs_stay}
use Rattle.fsfs_pack.proofs.section.publish.Goals as goal

pub returns-in-Err-clause-turned : goal.returns-in-Err-clause-turned
returns-in-Err-clause-turned g c = λ v known may next written.
    fails (g.T.Turns.knows c.name_pack.new.turns) c.in-Err.place section.PackFirm section.Packed c.args.shard.now.first (c.args.shard.now.first + shard_size c.args.shard.now.layout) v (c.in-Err.ensures.turned v known may next written)

pub raise_floor-requires : goal.raise_floor-requires
raise_floor-requires g c = record {
  due = λ bound.
      let w = c.requires.due (sym c.in-Ok.ensures.duty ∙ bound) in
      let r = (c.in-Ok.ensures.turned w.0 w.1 w.2 w.3 w.4).done in (
        r.0,
        c.args.shard.now.first,
        r.1,
        r.2.section,
        packs_stay w.0 r.0 r.2.along ∙ w.3.full.packs,
        r.2.firm,
        subst (λ k. IsRevLine c.args.line.now (c.args.shard.now.first + shard_size k)) (w.3.layout ∙ sym (layout_stays w.0 r.0 r.2.along)) c.requires.line,
      );
}

pub returns-clause-turned : goal.returns-clause-turned
returns-clause-turned g c = λ v known may next written.
    let first = c.args.shard.now.first in
    let r = (c.in-Ok.ensures.turned v known may next written).done in
    let now = g.T.Turns.knows c.raise_floor.new.turns in
    let same = layout_stays v r.0 r.2.along ∙ sym next.layout in
    goes_on now c.raise_floor.result section.PackFirm section.Packed first (first + shard_size c.args.shard.now.layout) v r.0 r.2
    (subst (λ k. Goes now c.raise_floor.result section.Packed (first + shard_size k) r.0) same
    (c.raise_floor.ensures.turned r.0 first r.1 r.2.section (packs_stay v r.0 r.2.along ∙ next.full.packs) r.2.firm (subst (λ k. IsRevLine c.args.line.now (first + shard_size k)) (sym same) c.requires.line)))
