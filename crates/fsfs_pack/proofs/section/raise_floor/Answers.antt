use Rattle.std.proofs.Common.{◌+◌, Err, sym, subst, ◌∙◌}
use Rattle.fsfs_layout.specs.Layouts.{shard_size}
use Rattle.fsfs_machine.specs.declared.machine.Section.TheVariants as section
use Rattle.fsfs_pack.specs.Sections.{Goes}
use Rattle.fsfs_pack.proofs.Going.{fails, goes_on, layout_stays, packs_stay}
use Rattle.fsfs_pack.proofs.section.raise_floor.Goals as goal

pub returns-in-Err-clause-turned : goal.returns-in-Err-clause-turned
returns-in-Err-clause-turned g c = λ v f known at packs firm line. fails (g.T.Turns.knows c.put_floor.new.turns) c.in-Err.place section.FloorPut section.Packed f (f + shard_size v.layout) v (c.in-Err.ensures.turned v f known at firm line)

pub put_floor-requires : goal.put_floor-requires
put_floor-requires g c = record { due = λ bound. let w = c.requires.due bound in (w.0, w.1, w.2, w.3, w.5, w.6) }

pub rename_floor-requires-clause-due : goal.rename_floor-requires-clause-due
rename_floor-requires-clause-due g c = λ bound.
    let w = c.requires.due (sym c.in-Ok.ensures.duty ∙ bound) in
    let r = (c.in-Ok.ensures.turned w.0 w.1 w.2 w.3 w.5 w.6).done in
    (r.0, r.1, r.2.section, packs_stay w.0 r.0 r.2.along ∙ w.4)

pub returns-in-Err-rename_floor-clause-turned : goal.returns-in-Err-rename_floor-clause-turned
returns-in-Err-rename_floor-clause-turned g c = λ v f known at packs firm line.
    let r = (c.in-Ok.ensures.turned v f known at firm line).done in
    let now = g.T.Turns.knows c.rename_floor.new.turns in
    goes_on now (Err c.in-Err-rename_floor.place) section.FloorPut section.Packed f (f + shard_size v.layout) v r.0 r.2
    (fails now c.in-Err-rename_floor.place section.FloorRenamed section.Packed f (f + shard_size v.layout) r.0 (c.in-Err-rename_floor.ensures.turned r.0 f r.1 r.2.section (packs_stay v r.0 r.2.along ∙ packs) r.2.firm))

pub firm_floor-requires : goal.firm_floor-requires
firm_floor-requires g c = record {
  due = λ bound.
      let w = c.requires.due (sym c.in-Ok.ensures.duty ∙ (sym c.in-Ok-rename_floor.ensures.duty ∙ bound)) in
      let r = (c.in-Ok.ensures.turned w.0 w.1 w.2 w.3 w.5 w.6).done in
      let q = (c.in-Ok-rename_floor.ensures.turned r.0 w.1 r.1 r.2.section (packs_stay w.0 r.0 r.2.along ∙ w.4) r.2.firm).done in
      (q.0, q.1, q.2.section);
}

pub returns-clause-turned : goal.returns-clause-turned
returns-clause-turned g c = λ v f known at packs firm line.
    let r = (c.in-Ok.ensures.turned v f known at firm line).done in
    let q = (c.in-Ok-rename_floor.ensures.turned r.0 f r.1 r.2.section (packs_stay v r.0 r.2.along ∙ packs) r.2.firm).done in
    let now = g.T.Turns.knows c.firm_floor.new.turns in
    goes_on now c.firm_floor.result section.FloorPut section.Packed f (f + shard_size v.layout) v r.0 r.2
    (goes_on now c.firm_floor.result section.FloorRenamed section.Packed f (f + shard_size v.layout) r.0 q.0 q.2
    (subst (λ k. Goes now c.firm_floor.result section.Packed (f + shard_size k) q.0) (layout_stays r.0 q.0 q.2.along ∙ layout_stays v r.0 r.2.along) (c.firm_floor.ensures.turned q.0 f q.1 q.2.section q.2.firm)))
