use Rattle.std.proofs.Common.{sym, ap, subst, ◌≡◌}
use Rattle.fsfs_machine.specs.declared.machine.Step.TheVariants.{StickLock}
use Rattle.fsfs_turn.specs.Views.{MustStick, LockGiven}
use Rattle.fsfs_pass.specs.declared.seats.seat_view.SeatView.{SeatView}
use Rattle.fsfs_pass.specs.Passes.{pass_store}
use Rattle.fsfs_pass.specs.Met.{ground_of}
use Rattle.fsfs_pass.proofs.Turning.{knows_still, sits_so, mounted_still, stays}
use Rattle.fsfs_pass.proofs.turns.PassTurnsTurns.stick.Goals as goal

pub stick-requires-clause-may : goal.stick-requires-clause-may
stick-requires-clause-may g c = λ told. let w = c.requires.due told in subst (λ z. MustStick c.args.place z) (sym w.1.is) w.2

pub returns-clause-turned : goal.returns-clause-turned
returns-clause-turned g c = λ v known must.
    let is = ap (λ m. m.0) c.stick.ensures.same.2 in
    knows_still (g.D.Disk.trace c.args.self.now.first.value) c.args.self.now.last c.args.self.now.seat.me.0 c.stick.new.seat.me.0 (λ a b. LockGiven (StickLock a.number) a b) v known (ap {A = SeatView} (λ z. z.told) is) (ap {A = SeatView} (λ z. pass_store c.args.self.now.last z) is) (ap {A = SeatView} (λ z. ground_of z) is) (ap {A = SeatView} (λ z. z.seen) is) c.stick.ensures.given

pub stick-requires-clause-sits : goal.stick-requires-clause-sits
stick-requires-clause-sits g c = sits_so c.args.self.now.seat.me.0 c.args.self.now.sitting

pub returns-clause-mounted : goal.returns-clause-mounted
returns-clause-mounted g c =
    let kin : c.stick.new.seat.me.0.kin ≡ c.args.self.now.seat.me.0.kin = ap {A = SeatView} (λ z. z.kin) (ap (λ m. m.0) c.stick.ensures.same.2) in
    let benches : c.stick.new.seat.me.0.bench_failures ≡ c.args.self.now.seat.me.0.bench_failures = ap {A = SeatView} (λ z. z.bench_failures) (ap (λ m. m.0) c.stick.ensures.same.2) in
    mounted_still (g.D.Disk.mount_path c.args.self.now.first.value) c.args.self.now.seat.table_id c.stick.new.seat.table_id c.args.self.now.seat.me.0 c.stick.new.seat.me.0 c.stick.ensures.same.0 kin benches

pub invariant_of-self-clause-sitting : goal.invariant_of-self-clause-sitting
invariant_of-self-clause-sitting g c =
    let kin : c.stick.new.seat.me.0.kin ≡ c.args.self.now.seat.me.0.kin = ap {A = SeatView} (λ z. z.kin) (ap (λ m. m.0) c.stick.ensures.same.2) in
    stays c.args.self.now.seat.me.0 c.stick.new.seat.me.0 kin c.args.self.now.sitting
