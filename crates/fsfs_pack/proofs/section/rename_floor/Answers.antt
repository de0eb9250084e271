use Rattle.std.proofs.Common.{refl}
use Rattle.fsfs_base.specs.declared.places.place.DiskPlace.TheVariants.{Pack}
use Rattle.fsfs_base.specs.declared.places.place.PackPlace.TheVariants as place
use Rattle.fsfs_machine.specs.declared.machine.Section.TheVariants as section
use Rattle.fsfs_pack.proofs.Going.{done, ill, went_well, went_ill}
use Rattle.fsfs_pack.proofs.section.rename_floor.Goals as goal

pub rename-requires-clause-due : goal.rename-requires-clause-due
rename-requires-clause-due g c = λ bound. let w = c.requires.due bound in (w.0, Pack place.RenameFloor, w.1, (w.2, c.name-next.ensures, c.name-floor.ensures, w.3))

pub returns-in-Ok-clause-turned : goal.returns-in-Ok-clause-turned
returns-in-Ok-clause-turned g c = λ v f known at packs firm.
    went_well (g.T.Turns.knows c.rename.new.self) section.FloorRenamed f v (done section.FloorPut (Pack place.RenameFloor) v at (λ went given. refl) section.FloorRenamed f f (g.T.Turns.knows c.rename.new.self) firm refl refl (c.in-Ok.ensures.turned v (Pack place.RenameFloor) known (at, c.name-next.ensures, c.name-floor.ensures, packs)))

pub returns-in-Err-clause-turned : goal.returns-in-Err-clause-turned
returns-in-Err-clause-turned g c = λ v f known at packs firm.
    went_ill (g.T.Turns.knows c.rename.new.self) place.RenameFloor section.FloorRenamed f v (ill section.FloorPut (Pack place.RenameFloor) v at (λ went given. refl) (g.T.Turns.knows c.rename.new.self) (section.FloorDoubtful (Pack place.RenameFloor)) refl (c.in-Err.ensures.turned v (Pack place.RenameFloor) known (at, c.name-next.ensures, c.name-floor.ensures, packs)))
