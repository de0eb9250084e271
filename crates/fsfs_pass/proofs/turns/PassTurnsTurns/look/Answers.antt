use Rattle.std.proofs.Common.{ap, ◌∙◌, ◌≡◌}
use Rattle.fsfs_turn.specs.Views.{Looked}
use Rattle.fsfs_pass.specs.declared.seats.seat_view.SeatView.{SeatView}
use Rattle.fsfs_pass.specs.Met.{ground_of}
use Rattle.fsfs_pass.proofs.Turning.{look_told, look_low, look_youngest, look_there, look_turns, tells_later, knows_on, sits_so, stays, mounted_still}
use Rattle.fsfs_pass.proofs.turns.PassTurnsTurns.look.Goals as goal

pub invariant_of-self : goal.invariant_of-self
invariant_of-self g c =
    let is = ap (λ m. m.0) c.look-found.ensures.same.2 in
    record {
      sits = (c.look-found.ensures.same.0 ∙ c.args.self.now.sits.0, c.args.self.now.sits.1, c.args.self.now.sits.2, ap (λ m. m.1) c.look-found.ensures.same.2 ∙ c.args.self.now.sits.3);
      layout_is = ap {A = SeatView} (λ z. ground_of z) is ∙ c.args.self.now.layout_is;
      sitting = stays c.args.self.now.seat.me.0 c.look-found.new.seat.me.0 (ap {A = SeatView} (λ z. z.kin) is) c.args.self.now.sitting;
      met_told = c.look-found.ensures.tells.0;
      last_low = look_low c.args.self.now.last c.look-found.result c.later_of-last.result c.args.self.now.seat.me.0 c.look-found.new.seat.me.0 is c.args.self.now.last_low c.look-found.ensures.looked c.later_of-last.ensures.one c.later_of-last.ensures.other c.later_of-last.ensures.greater;
      short = c.look-found.ensures.tells.2;
    }

pub returns-clause-youngest : goal.returns-clause-youngest
returns-clause-youngest g c = let is = ap (λ m. m.0) c.look-found.ensures.same.2 in look_youngest c.args.self.now.last c.look-found.result c.later_of-last.result c.args.self.now.seat.me.0 c.look-found.new.seat.me.0 is c.args.self.now.last_low c.look-found.ensures.looked c.later_of-last.ensures.one c.later_of-last.ensures.other c.later_of-last.ensures.greater

pub returns-clause-there : goal.returns-clause-there
returns-clause-there g c = let is = ap (λ m. m.0) c.look-found.ensures.same.2 in look_there c.args.self.now.last c.look-found.result c.later_of-last.result c.args.self.now.seat.me.0 c.look-found.new.seat.me.0 is c.args.self.now.last_low c.look-found.ensures.looked c.later_of-last.ensures.one c.later_of-last.ensures.other c.later_of-last.ensures.greater

pub returns-clause-later : goal.returns-clause-later
returns-clause-later g c = let is = ap (λ m. m.0) c.look-found.ensures.same.2 in tells_later c.args.self.now.last c.later_of-last.result c.args.self.now.seat.me.0 c.look-found.new.seat.me.0 c.args.self.now.met_told (look_told c.args.self.now.last c.look-found.result c.later_of-last.result c.args.self.now.seat.me.0 c.look-found.new.seat.me.0 is c.args.self.now.last_low c.look-found.ensures.looked c.later_of-last.ensures.one c.later_of-last.ensures.other c.later_of-last.ensures.greater) c.later_of-last.ensures.one c.look-found.ensures.later

pub returns-clause-turned : goal.returns-clause-turned
returns-clause-turned g c = λ v known.
    let is = ap (λ m. m.0) c.look-found.ensures.same.2 in
    knows_on (g.D.Disk.trace c.args.self.now.first.value) c.args.self.now.last c.later_of-last.result c.args.self.now.seat.me.0 c.look-found.new.seat.me.0 (λ a b. Looked c.later_of-last.result a b) v known (look_told c.args.self.now.last c.look-found.result c.later_of-last.result c.args.self.now.seat.me.0 c.look-found.new.seat.me.0 is c.args.self.now.last_low c.look-found.ensures.looked c.later_of-last.ensures.one c.later_of-last.ensures.other c.later_of-last.ensures.greater) c.look-found.ensures.tells (look_turns c.args.self.now.last c.look-found.result c.later_of-last.result c.args.self.now.seat.me.0 c.look-found.new.seat.me.0 is c.args.self.now.last_low c.look-found.ensures.looked c.later_of-last.ensures.one c.later_of-last.ensures.other c.later_of-last.ensures.greater)

pub look-found-requires-clause-sits : goal.look-found-requires-clause-sits
look-found-requires-clause-sits g c = sits_so c.args.self.now.seat.me.0 c.args.self.now.sitting

pub returns-clause-mounted : goal.returns-clause-mounted
returns-clause-mounted g c =
    let kin : c.look-found.new.seat.me.0.kin ≡ c.args.self.now.seat.me.0.kin = ap {A = SeatView} (λ z. z.kin) (ap (λ m. m.0) c.look-found.ensures.same.2) in
    let benches : c.look-found.new.seat.me.0.bench_failures ≡ c.args.self.now.seat.me.0.bench_failures = ap {A = SeatView} (λ z. z.bench_failures) (ap (λ m. m.0) c.look-found.ensures.same.2) in
    mounted_still (g.D.Disk.mount_path c.args.self.now.first.value) c.args.self.now.seat.table_id c.look-found.new.seat.table_id c.args.self.now.seat.me.0 c.look-found.new.seat.me.0 c.look-found.ensures.same.0 kin benches
