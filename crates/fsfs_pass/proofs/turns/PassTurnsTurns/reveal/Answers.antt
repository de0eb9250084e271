use Rattle.std.proofs.Common.{ap, sym, subst, ◌∙◌, length, ◌≡◌}
use Rattle.fsfs_turn.specs.Views.{Revealed}
use Rattle.fsfs_pass.specs.Seats.{view_of, reveal_in}
use Rattle.fsfs_pass.specs.declared.seats.seat_view.SeatView.{SeatView}
use Rattle.fsfs_pass.proofs.Turning.{Keeps, reveal_keeps, low_on, knows_on, sits_so, stays, mounted_still, reveal_kin, reveal_benches}
use Rattle.fsfs_pass.proofs.turns.PassTurnsTurns.reveal.Goals as goal

pub reveal-requires-clause-may : goal.reveal-requires-clause-may
reveal-requires-clause-may g c = λ told. let w = c.requires.due told in (w.1, ap (λ z. z.section) w.2.is ∙ w.3, w.4 ∙ sym (ap (λ z. length z.seen) w.2.is))

pub invariant_of-self : goal.invariant_of-self
invariant_of-self g c =
    let k : Keeps c.args.self.now.seat.me.0 c.reveal.new.seat.me.0 = reveal_keeps c.args.self.now.seat.me.0 c.reveal.new.seat.me.0 (ap (λ m. m.0) c.reveal.ensures.same.2) c.reveal.ensures.tells (λ told. let w = c.requires.due told in (w.1, ap (λ z. z.section) w.2.is ∙ w.3)) in
    record {
      sits = (c.reveal.ensures.same.0 ∙ c.args.self.now.sits.0, c.args.self.now.sits.1, c.args.self.now.sits.2, ap (λ m. m.1) c.reveal.ensures.same.2 ∙ c.args.self.now.sits.3);
      layout_is = k.layout ∙ c.args.self.now.layout_is;
      sitting = stays c.args.self.now.seat.me.0 c.reveal.new.seat.me.0 k.kin c.args.self.now.sitting;
      met_told = k.met;
      last_low = low_on c.args.self.now.last c.args.self.now.seat.me.0 c.reveal.new.seat.me.0 k c.args.self.now.last_low;
      short = k.short;
    }

pub returns-clause-turned : goal.returns-clause-turned
returns-clause-turned g c = λ v x known at named.
    let was = ap (λ z. z.section) known.is ∙ at in
    let is = ap (λ m. m.0) c.reveal.ensures.same.2 ∙ ap (λ s. reveal_in s c.reveal.new.seat.me.0.met c.args.self.now.seat.me.0) was in
    let k = reveal_keeps c.args.self.now.seat.me.0 c.reveal.new.seat.me.0 (ap (λ m. m.0) c.reveal.ensures.same.2) c.reveal.ensures.tells (λ told. (x, was)) in
    knows_on (g.D.Disk.trace c.args.self.now.first.value) c.args.self.now.last c.args.self.now.last c.args.self.now.seat.me.0 c.reveal.new.seat.me.0 (λ a b. Revealed x a b) v known k.told c.reveal.ensures.tells (λ told. subst (λ z. Revealed x (view_of c.args.self.now.seat.me.0) (view_of z)) (sym is) (c.reveal.ensures.revealed told x was))

pub reveal-requires-clause-sits : goal.reveal-requires-clause-sits
reveal-requires-clause-sits g c = sits_so c.args.self.now.seat.me.0 c.args.self.now.sitting

pub returns-clause-mounted : goal.returns-clause-mounted
returns-clause-mounted g c =
    let kin : c.reveal.new.seat.me.0.kin ≡ c.args.self.now.seat.me.0.kin = ap {A = SeatView} (λ z. z.kin) (ap (λ m. m.0) c.reveal.ensures.same.2) ∙ reveal_kin c.args.self.now.seat.me.0.section c.reveal.new.seat.me.0.met c.args.self.now.seat.me.0 in
    let benches : c.reveal.new.seat.me.0.bench_failures ≡ c.args.self.now.seat.me.0.bench_failures = ap {A = SeatView} (λ z. z.bench_failures) (ap (λ m. m.0) c.reveal.ensures.same.2) ∙ reveal_benches c.args.self.now.seat.me.0.section c.reveal.new.seat.me.0.met c.args.self.now.seat.me.0 in
    mounted_still (g.D.Disk.mount_path c.args.self.now.first.value) c.args.self.now.seat.table_id c.reveal.new.seat.table_id c.args.self.now.seat.me.0 c.reveal.new.seat.me.0 c.reveal.ensures.same.0 kin benches
