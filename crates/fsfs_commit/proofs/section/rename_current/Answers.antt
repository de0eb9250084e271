use Rattle.std.proofs.Common.{refl}
use Rattle.fsfs_base.specs.declared.places.place.DiskPlace.TheVariants.{Commit}
use Rattle.fsfs_base.specs.declared.places.place.CommitPlace.TheVariants as place
use Rattle.fsfs_machine.specs.declared.machine.Section.TheVariants as section
use Rattle.fsfs_commit.proofs.Going.{goes_done, goes_failed}
use Rattle.fsfs_commit.proofs.section.rename_current.Goals as goal

-- ---- the calls are due

pub rename-requires-clause-due : goal.rename-requires-clause-due
rename-requires-clause-due g c = λ bound. let w = c.requires.due bound in (w.0, Commit place.RenameCurrent, w.2, (w.1, w.3, c.name-next.ensures, c.name-current.ensures))

-- ---- what they come to

pub returns-in-Ok-clause-turned : goal.returns-in-Ok-clause-turned
returns-in-Ok-clause-turned g c = λ v x known at. goes_done place.RenameCurrent v (section.CurrentPut x) x at refl (λ went given. refl) _ (c.in-Ok.ensures.turned v (Commit place.RenameCurrent) known (x, at, c.name-next.ensures, c.name-current.ensures))

pub returns-in-Err-clause-turned : goal.returns-in-Err-clause-turned
returns-in-Err-clause-turned g c = λ v x known at. goes_failed place.RenameCurrent v (section.CurrentPut x) x at refl (λ went given. refl) _ _ refl (c.in-Err.ensures.turned v (Commit place.RenameCurrent) known (x, at, c.name-next.ensures, c.name-current.ensures))
