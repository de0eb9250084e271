use Rattle.std.proofs.Common.{sym, ◌∙◌}
use Rattle.fsfs_machine.specs.declared.machine.Step.TheVariants.{GiveLock, StickLock}
use Rattle.fsfs_pack.proofs.Settling.{must_stick, may_be_given}
use Rattle.fsfs_pack.proofs.Floors.{on_ok, stuck_err}
use Rattle.fsfs_pack.proofs.packing.settle.Goals as goal

pub stick-requires : goal.stick-requires
stick-requires g c = record { due = λ bound. let w = c.requires.due bound in (w.0, w.1, must_stick c.args.end.now c.in-Some.place w.0 (sym c.stuck_by.ensures ∙ c.in-Some.is) w.2) }

pub give_lock-requires : goal.give_lock-requires
give_lock-requires g c = record { due = λ bound. let w = c.requires.due bound in (w.0, w.1, may_be_given c.args.end.now w.0 (sym c.stuck_by.ensures ∙ c.in-None.is) w.2) }

pub returns-in-Some-clause-turned : goal.returns-in-Some-clause-turned
returns-in-Some-clause-turned g c = λ v known ends. let u = c.stick.ensures.turned v known (must_stick c.args.end.now c.in-Some.place v (sym c.stuck_by.ensures ∙ c.in-Some.is) ends) in (u.0, u.1, (StickLock v.number, u.2))

pub returns-in-None-clause-turned : goal.returns-in-None-clause-turned
returns-in-None-clause-turned g c = λ v known ends. let u = c.give_lock.ensures.turned v known (may_be_given c.args.end.now v (sym c.stuck_by.ensures ∙ c.in-None.is) ends) in (u.0, u.1, (GiveLock v.number, u.2))

pub returns-in-Some-clause-below : goal.returns-in-Some-clause-below
returns-in-Some-clause-below g c = stuck_err _ c.args.end.now c.in-Some.place (sym c.stuck_by.ensures ∙ c.in-Some.is)

pub returns-in-None-clause-below : goal.returns-in-None-clause-below
returns-in-None-clause-below g c = on_ok c.args.end.now c.give_lock.ensures.same
