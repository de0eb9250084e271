use Rattle.std.proofs.Common.{ap, subst, ◌∙◌, ◌≡◌}
use Rattle.std.specs.Prelude.{unwrap_or}
use Rattle.fsfs_disk.specs.Benches.{bytes_on}
use Rattle.fsfs_turn.specs.Views.{Answers, Adopted}
use Rattle.fsfs_pass.specs.declared.seats.seat_view.SeatView.{SeatView}
use Rattle.fsfs_pass.specs.Seats.{view_of}
use Rattle.fsfs_pass.specs.SeatCalls.Tells.{AdoptedAs, no_adoption}
use Rattle.fsfs_pass.proofs.Turning.{Keeps, back_keeps, low_on, knows_went, sits_so, stays, mounted_still}
use Rattle.fsfs_pass.proofs.turns.PassTurnsTurns.adopt_file.Goals as goal

pub invariant_of-self : goal.invariant_of-self
invariant_of-self g c =
    let k : Keeps c.args.self.now.seat.me.0 c.adopt_file.new.seat.me.0 = back_keeps _ c.args.self.now.seat.me.0 c.adopt_file.new.seat.me.0 c.adopt_file.ensures.back c.adopt_file.ensures.tells c.adopt_file.ensures.later in
    record {
      sits = (c.adopt_file.ensures.same.0 ∙ c.args.self.now.sits.0, c.args.self.now.sits.1, c.args.self.now.sits.2, c.adopt_file.ensures.same.2);
      layout_is = k.layout ∙ c.args.self.now.layout_is;
      sitting = stays c.args.self.now.seat.me.0 c.adopt_file.new.seat.me.0 k.kin c.args.self.now.sitting;
      met_told = k.met;
      last_low = low_on c.args.self.now.last c.args.self.now.seat.me.0 c.adopt_file.new.seat.me.0 k c.args.self.now.last_low;
      short = k.short;
    }

pub returns-clause-turned : goal.returns-clause-turned
returns-clause-turned g c = λ v txn properties next known may named about.
    knows_went (g.D.Disk.trace c.args.self.now.first.value) c.args.self.now.last c.args.self.now.last c.args.self.now.seat.me.0 c.adopt_file.new.seat.me.0 (λ went. Answers c.adopt_file.result went) (λ went a b. Adopted txn properties next (bytes_on (g.D.Bench.Bench.contents c.args.bench.now) c.args.file.now) went a b) v known (ap {A = SeatView} (λ z. z.told) c.adopt_file.ensures.back) c.adopt_file.ensures.tells
    (subst (λ o. AdoptedAs (unwrap_or o no_adoption) (bytes_on (g.D.Bench.Bench.contents c.args.bench.now) c.args.file.now) c.adopt_file.result (view_of c.args.self.now.seat.me.0) (view_of c.adopt_file.new.seat.me.0)) (about known.told) (c.adopt_file.ensures.adopted known.told))

pub adopt_file-requires-clause-sits : goal.adopt_file-requires-clause-sits
adopt_file-requires-clause-sits g c = sits_so c.args.self.now.seat.me.0 c.args.self.now.sitting

pub returns-clause-mounted : goal.returns-clause-mounted
returns-clause-mounted g c =
    let kin : c.adopt_file.new.seat.me.0.kin ≡ c.args.self.now.seat.me.0.kin = ap {A = SeatView} (λ z. z.kin) c.adopt_file.ensures.back in
    let benches : c.adopt_file.new.seat.me.0.bench_failures ≡ c.args.self.now.seat.me.0.bench_failures = ap {A = SeatView} (λ z. z.bench_failures) c.adopt_file.ensures.back in
    mounted_still (g.D.Disk.mount_path c.args.self.now.first.value) c.args.self.now.seat.table_id c.adopt_file.new.seat.table_id c.args.self.now.seat.me.0 c.adopt_file.new.seat.me.0 c.adopt_file.ensures.same.0 kin benches
