use Rattle.std.proofs.Common.{ap, ◌∙◌, ◌≡◌}
use Rattle.fsfs_base.specs.declared.places.place.DiskPlace.TheVariants.{Remove}
use Rattle.fsfs_turn.specs.Packing.{DoneBeside}
use Rattle.fsfs_turn.specs.Views.{View, Answers}
use Rattle.fsfs_pass.specs.declared.seats.seat_view.SeatView.{SeatView}
use Rattle.fsfs_pass.proofs.Turning.{Keeps, back_keeps, low_on, knows_went, sits_so, stays, mounted_still}
use Rattle.fsfs_pass.proofs.turns.PassTurnsTurns.drop_folder.Goals as goal

pub invariant_of-self : goal.invariant_of-self
invariant_of-self g c =
    let k : Keeps c.args.self.now.seat.me.0 c.drop_folder.new.seat.me.0 = back_keeps _ c.args.self.now.seat.me.0 c.drop_folder.new.seat.me.0 c.drop_folder.ensures.back c.drop_folder.ensures.tells c.drop_folder.ensures.later in
    record {
      sits = (c.drop_folder.ensures.same.0 ∙ c.args.self.now.sits.0, c.args.self.now.sits.1, c.args.self.now.sits.2, c.drop_folder.ensures.same.2);
      layout_is = k.layout ∙ c.args.self.now.layout_is;
      sitting = stays c.args.self.now.seat.me.0 c.drop_folder.new.seat.me.0 k.kin c.args.self.now.sitting;
      met_told = k.met;
      last_low = low_on c.args.self.now.last c.args.self.now.seat.me.0 c.drop_folder.new.seat.me.0 k c.args.self.now.last_low;
      short = k.short;
    }

pub drop_folder-requires-clause-may : goal.drop_folder-requires-clause-may
drop_folder-requires-clause-may g c = λ told. let w = c.requires.due told in ap {A = View} (λ z. z.section) w.1.is ∙ w.2

pub returns-clause-turned : goal.returns-clause-turned
returns-clause-turned g c = λ v known at.
    knows_went (g.D.Disk.trace c.args.self.now.first.value) c.args.self.now.last c.args.self.now.last c.args.self.now.seat.me.0 c.drop_folder.new.seat.me.0 (λ went. Answers c.drop_folder.result went) (λ went a b. DoneBeside Remove went a b) v known (ap {A = SeatView} (λ z. z.told) c.drop_folder.ensures.back) c.drop_folder.ensures.tells
    (c.drop_folder.ensures.beside known.told)

pub drop_folder-requires-clause-sits : goal.drop_folder-requires-clause-sits
drop_folder-requires-clause-sits g c = sits_so c.args.self.now.seat.me.0 c.args.self.now.sitting

pub returns-clause-mounted : goal.returns-clause-mounted
returns-clause-mounted g c =
    let kin : c.drop_folder.new.seat.me.0.kin ≡ c.args.self.now.seat.me.0.kin = ap {A = SeatView} (λ z. z.kin) c.drop_folder.ensures.back in
    let benches : c.drop_folder.new.seat.me.0.bench_failures ≡ c.args.self.now.seat.me.0.bench_failures = ap {A = SeatView} (λ z. z.bench_failures) c.drop_folder.ensures.back in
    mounted_still (g.D.Disk.mount_path c.args.self.now.first.value) c.args.self.now.seat.table_id c.drop_folder.new.seat.table_id c.args.self.now.seat.me.0 c.drop_folder.new.seat.me.0 c.drop_folder.ensures.same.0 kin benches
