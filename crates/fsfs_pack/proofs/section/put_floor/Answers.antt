use Rattle.std.proofs.Common.{refl}
use Rattle.fsfs_base.specs.declared.places.place.DiskPlace.TheVariants.{Pack}
use Rattle.fsfs_base.specs.declared.places.place.PackPlace.TheVariants as place
use Rattle.fsfs_machine.specs.declared.machine.Section.TheVariants as section
use Rattle.fsfs_pack.proofs.Going.{done, ill, went_well, went_ill}
use Rattle.fsfs_pack.proofs.section.put_floor.Goals as goal

pub put-requires : goal.put-requires
put-requires g c = record { due = λ bound. let w = c.requires.due bound in (w.0, Pack place.PutFloor, w.2, (w.1, w.4, w.3, c.name.ensures, w.5)) }

pub returns-in-Ok-clause-turned : goal.returns-in-Ok-clause-turned
returns-in-Ok-clause-turned g c = λ v f known at firm line.
    went_well (g.T.Turns.knows c.put.new.self) section.FloorPut f v (done section.PackFirm (Pack place.PutFloor) v at (λ went given. refl) section.FloorPut f f (g.T.Turns.knows c.put.new.self) firm refl refl (c.in-Ok.ensures.turned v (Pack place.PutFloor) known (f, firm, at, c.name.ensures, line)))

pub returns-in-Err-clause-turned : goal.returns-in-Err-clause-turned
returns-in-Err-clause-turned g c = λ v f known at firm line.
    went_ill (g.T.Turns.knows c.put.new.self) place.PutFloor section.FloorPut f v (ill section.PackFirm (Pack place.PutFloor) v at (λ went given. refl) (g.T.Turns.knows c.put.new.self) section.Over refl (c.in-Err.ensures.turned v (Pack place.PutFloor) known (f, firm, at, c.name.ensures, line)))
