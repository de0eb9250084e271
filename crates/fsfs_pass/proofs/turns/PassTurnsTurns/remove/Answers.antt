use Rattle.std.proofs.Common.{sym, ap, subst, ◌∙◌, ◌≡◌}
use Rattle.fsfs_turn.specs.Packing.{MayRemove, Removal}
use Rattle.fsfs_turn.specs.Views.{View, Answers, rev_name}
use Rattle.fsfs_pass.specs.declared.seats.seat_view.SeatView.{SeatView}
use Rattle.fsfs_pass.proofs.Turning.{Keeps, back_keeps, low_on, knows_went, sits_so, stays, mounted_still}
use Rattle.fsfs_pass.proofs.turns.PassTurnsTurns.remove.Goals as goal

pub invariant_of-self : goal.invariant_of-self
invariant_of-self g c =
    let k : Keeps c.args.self.now.seat.me.0 c.remove.new.seat.me.0 = back_keeps _ c.args.self.now.seat.me.0 c.remove.new.seat.me.0 c.remove.ensures.back c.remove.ensures.tells c.remove.ensures.later in
    record {
      sits = (c.remove.ensures.same.0 ∙ c.args.self.now.sits.0, c.args.self.now.sits.1, c.args.self.now.sits.2, c.remove.ensures.same.2);
      layout_is = k.layout ∙ c.args.self.now.layout_is;
      sitting = stays c.args.self.now.seat.me.0 c.remove.new.seat.me.0 k.kin c.args.self.now.sitting;
      met_told = k.met;
      last_low = low_on c.args.self.now.last c.args.self.now.seat.me.0 c.remove.new.seat.me.0 k c.args.self.now.last_low;
      short = k.short;
    }

pub remove-requires-clause-may : goal.remove-requires-clause-may
remove-requires-clause-may g c = λ told. let w = c.requires.due told in (w.1, subst (λ z. MayRemove z w.1) (sym w.2.is) w.3, w.4 ∙ ap {A = View} (λ z. rev_name z w.1) (sym w.2.is))

pub returns-clause-turned : goal.returns-clause-turned
returns-clause-turned g c = λ v r known may named.
    knows_went (g.D.Disk.trace c.args.self.now.first.value) c.args.self.now.last c.args.self.now.last c.args.self.now.seat.me.0 c.remove.new.seat.me.0 (λ went. Answers c.remove.result went) (λ went a b. Removal c.remove.result r went a b) v known (ap {A = SeatView} (λ z. z.told) c.remove.ensures.back) c.remove.ensures.tells
    (c.remove.ensures.removed known.told r (subst (λ z. MayRemove z r) (sym known.is) may) (named ∙ ap {A = View} (λ z. rev_name z r) (sym known.is)))

pub remove-requires-clause-sits : goal.remove-requires-clause-sits
remove-requires-clause-sits g c = sits_so c.args.self.now.seat.me.0 c.args.self.now.sitting

pub returns-clause-mounted : goal.returns-clause-mounted
returns-clause-mounted g c =
    let kin : c.remove.new.seat.me.0.kin ≡ c.args.self.now.seat.me.0.kin = ap {A = SeatView} (λ z. z.kin) c.remove.ensures.back in
    let benches : c.remove.new.seat.me.0.bench_failures ≡ c.args.self.now.seat.me.0.bench_failures = ap {A = SeatView} (λ z. z.bench_failures) c.remove.ensures.back in
    mounted_still (g.D.Disk.mount_path c.args.self.now.first.value) c.args.self.now.seat.table_id c.remove.new.seat.table_id c.args.self.now.seat.me.0 c.remove.new.seat.me.0 c.remove.ensures.same.0 kin benches
