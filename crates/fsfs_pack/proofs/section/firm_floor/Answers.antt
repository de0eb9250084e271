use Rattle.std.proofs.Common.{refl}
use Rattle.fsfs_base.specs.declared.places.place.DiskPlace.TheVariants.{Pack}
use Rattle.fsfs_base.specs.declared.places.place.PackPlace.TheVariants as place
use Rattle.fsfs_machine.specs.declared.machine.Section.TheVariants as section
use Rattle.std.proofs.Common.{◌+◌}
use Rattle.fsfs_layout.specs.Layouts.{shard_size}
use Rattle.fsfs_pack.proofs.Going.{done, ill, went_well, went_ill}
use Rattle.fsfs_pack.proofs.section.firm_floor.Goals as goal

pub firm_names-requires : goal.firm_names-requires
firm_names-requires g c = record { due = λ bound. let w = c.requires.due bound in (w.0, Pack place.FirmFloor, w.1, w.2) }

pub returns-in-Ok-clause-turned : goal.returns-in-Ok-clause-turned
returns-in-Ok-clause-turned g c = λ v f known at firm.
    went_well (g.T.Turns.knows c.firm_names.new.self) section.Packed (f + shard_size v.layout) v (done section.FloorRenamed (Pack place.FirmFloor) v at (λ went given. refl) section.Packed f (f + shard_size v.layout) (g.T.Turns.knows c.firm_names.new.self) firm refl refl (c.in-Ok.ensures.turned v (Pack place.FirmFloor) known at))

pub returns-in-Err-clause-turned : goal.returns-in-Err-clause-turned
returns-in-Err-clause-turned g c = λ v f known at firm.
    went_ill (g.T.Turns.knows c.firm_names.new.self) place.FirmFloor section.Packed (f + shard_size v.layout) v (ill section.FloorRenamed (Pack place.FirmFloor) v at (λ went given. refl) (g.T.Turns.knows c.firm_names.new.self) (section.FloorDoubtful (Pack place.FirmFloor)) refl (c.in-Err.ensures.turned v (Pack place.FirmFloor) known at))
