use Rattle.std.proofs.Common.{ap, ◌∙◌, ◌≡◌}
use Rattle.fsfs_turn.specs.Courses.{ReadOnly}
use Rattle.fsfs_pass.specs.declared.seats.seat_view.SeatView.{SeatView}
use Rattle.fsfs_pass.proofs.Turning.{Keeps, back_keeps, low_on, knows_on, sits_so, stays, mounted_still}
use Rattle.fsfs_pass.proofs.turns.PassTurnsTurns.size.Goals as goal

pub invariant_of-self : goal.invariant_of-self
invariant_of-self g c =
    let k : Keeps c.args.self.now.seat.me.0 c.size.new.seat.me.0 = back_keeps _ c.args.self.now.seat.me.0 c.size.new.seat.me.0 c.size.ensures.back c.size.ensures.tells c.size.ensures.later in
    record {
      sits = (c.size.ensures.same.0 ∙ c.args.self.now.sits.0, c.args.self.now.sits.1, c.args.self.now.sits.2, c.size.ensures.same.2);
      layout_is = k.layout ∙ c.args.self.now.layout_is;
      sitting = stays c.args.self.now.seat.me.0 c.size.new.seat.me.0 k.kin c.args.self.now.sitting;
      met_told = k.met;
      last_low = low_on c.args.self.now.last c.args.self.now.seat.me.0 c.size.new.seat.me.0 k c.args.self.now.last_low;
      short = k.short;
    }

pub returns-clause-onward : goal.returns-clause-onward
returns-clause-onward g c = λ v known. knows_on (g.D.Disk.trace c.args.self.now.first.value) c.args.self.now.last c.args.self.now.last c.args.self.now.seat.me.0 c.size.new.seat.me.0 (λ a b. ReadOnly a b) v known (ap {A = SeatView} (λ z. z.told) c.size.ensures.back) c.size.ensures.tells c.size.ensures.onward

pub size-requires-clause-sits : goal.size-requires-clause-sits
size-requires-clause-sits g c = sits_so c.args.self.now.seat.me.0 c.args.self.now.sitting

pub returns-clause-mounted : goal.returns-clause-mounted
returns-clause-mounted g c =
    let kin : c.size.new.seat.me.0.kin ≡ c.args.self.now.seat.me.0.kin = ap {A = SeatView} (λ z. z.kin) c.size.ensures.back in
    let benches : c.size.new.seat.me.0.bench_failures ≡ c.args.self.now.seat.me.0.bench_failures = ap {A = SeatView} (λ z. z.bench_failures) c.size.ensures.back in
    mounted_still (g.D.Disk.mount_path c.args.self.now.first.value) c.args.self.now.seat.table_id c.size.new.seat.table_id c.args.self.now.seat.me.0 c.size.new.seat.me.0 c.size.ensures.same.0 kin benches
