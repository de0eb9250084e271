use Rattle.std.proofs.Common.{refl}
use Rattle.fsfs_base.specs.declared.places.place.DiskPlace.TheVariants.{Commit}
use Rattle.fsfs_base.specs.declared.places.place.CommitPlace.TheVariants as place
use Rattle.fsfs_machine.specs.declared.machine.Section.TheVariants as section
use Rattle.fsfs_commit.proofs.Going.{goes_done, goes_failed}
use Rattle.fsfs_commit.proofs.section.firm_revision.Goals as goal

-- ---- the calls are due

pub firm_names-requires : goal.firm_names-requires
firm_names-requires g c = record { due = λ bound. let w = c.requires.due bound in (w.0, Commit place.FirmRev, w.2, (w.1, w.3)) }

-- ---- what they come to

pub returns-in-Ok-clause-turned : goal.returns-in-Ok-clause-turned
returns-in-Ok-clause-turned g c = λ v x known at. goes_done place.FirmRev v (section.PropsPut x) x at refl (λ went given. refl) _ (c.in-Ok.ensures.turned v (Commit place.FirmRev) known (x, at))

pub returns-in-Err-clause-turned : goal.returns-in-Err-clause-turned
returns-in-Err-clause-turned g c = λ v x known at. goes_failed place.FirmRev v (section.PropsPut x) x at refl (λ went given. refl) _ _ refl (c.in-Err.ensures.turned v (Commit place.FirmRev) known (x, at))
