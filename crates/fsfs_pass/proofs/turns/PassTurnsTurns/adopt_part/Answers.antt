use Rattle.std.proofs.Common.{sym, ap, subst, ◌∙◌, ◌≡◌}
use Rattle.fsfs_disk.specs.Benches.{bytes_on}
use Rattle.fsfs_disk.specs.Trace.{Adopt}
use Rattle.fsfs_turn.specs.Views.{IsDue, Answers, Called}
use Rattle.fsfs_pass.specs.declared.seats.seat_view.SeatView.{SeatView}
use Rattle.fsfs_pass.proofs.Turning.{Keeps, back_keeps, low_on, knows_went, sits_so, stays, mounted_still}
use Rattle.fsfs_pass.proofs.turns.PassTurnsTurns.adopt_part.Goals as goal

pub invariant_of-self : goal.invariant_of-self
invariant_of-self g c =
    let k : Keeps c.args.self.now.seat.me.0 c.adopt_part.new.seat.me.0 = back_keeps _ c.args.self.now.seat.me.0 c.adopt_part.new.seat.me.0 c.adopt_part.ensures.back c.adopt_part.ensures.tells c.adopt_part.ensures.later in
    record {
      sits = (c.adopt_part.ensures.same.0 ∙ c.args.self.now.sits.0, c.args.self.now.sits.1, c.args.self.now.sits.2, c.adopt_part.ensures.same.2);
      layout_is = k.layout ∙ c.args.self.now.layout_is;
      sitting = stays c.args.self.now.seat.me.0 c.adopt_part.new.seat.me.0 k.kin c.args.self.now.sitting;
      met_told = k.met;
      last_low = low_on c.args.self.now.last c.args.self.now.seat.me.0 c.adopt_part.new.seat.me.0 k c.args.self.now.last_low;
      short = k.short;
    }

pub adopt_part-requires-clause-due : goal.adopt_part-requires-clause-due
adopt_part-requires-clause-due g c = λ told. let w = c.requires.due told in (w.1, subst (λ z. IsDue z w.1 (Adopt c.args.to.now (bytes_on (g.D.Bench.Bench.contents c.args.bench.now) c.args.file.now))) (sym w.2.is) w.3)

pub returns-clause-turned : goal.returns-clause-turned
returns-clause-turned g c = λ v place known due.
    knows_went (g.D.Disk.trace c.args.self.now.first.value) c.args.self.now.last c.args.self.now.last c.args.self.now.seat.me.0 c.adopt_part.new.seat.me.0 (λ went. Answers c.adopt_part.result went) (λ went a b. Called place went a b) v known (ap {A = SeatView} (λ z. z.told) c.adopt_part.ensures.back) c.adopt_part.ensures.tells
    (c.adopt_part.ensures.called known.told place (subst (λ z. IsDue z place (Adopt c.args.to.now (bytes_on (g.D.Bench.Bench.contents c.args.bench.now) c.args.file.now))) (sym known.is) due))

pub adopt_part-requires-clause-sits : goal.adopt_part-requires-clause-sits
adopt_part-requires-clause-sits g c = sits_so c.args.self.now.seat.me.0 c.args.self.now.sitting

pub returns-clause-mounted : goal.returns-clause-mounted
returns-clause-mounted g c =
    let kin : c.adopt_part.new.seat.me.0.kin ≡ c.args.self.now.seat.me.0.kin = ap {A = SeatView} (λ z. z.kin) c.adopt_part.ensures.back in
    let benches : c.adopt_part.new.seat.me.0.bench_failures ≡ c.args.self.now.seat.me.0.bench_failures = ap {A = SeatView} (λ z. z.bench_failures) c.adopt_part.ensures.back in
    mounted_still (g.D.Disk.mount_path c.args.self.now.first.value) c.args.self.now.seat.table_id c.adopt_part.new.seat.table_id c.args.self.now.seat.me.0 c.adopt_part.new.seat.me.0 c.adopt_part.ensures.same.0 kin benches
