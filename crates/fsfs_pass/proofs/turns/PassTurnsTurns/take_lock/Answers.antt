use Rattle.std.proofs.Common.{◌≡◌, true, ap}
use Rattle.fsfs_turn.specs.Views.{View, LockTaken, FoundStuck}
use Rattle.fsfs_pass.specs.declared.seats.seat_view.SeatView.{SeatView}
use Rattle.fsfs_pass.specs.Met.{ground_of}
use Rattle.fsfs_pass.specs.Seats.{view_of, stuck_view}
use Rattle.fsfs_pass.specs.Passes.{pass_store, KnowsIt}
use Rattle.fsfs_pass.proofs.Turning.{knows_still, on_ok_map, if_err_map, sits_so, mounted_still, on_taken, stays}
use Rattle.fsfs_pass.proofs.turns.PassTurnsTurns.take_lock.Goals as goal

pub returns-clause-ok : goal.returns-clause-ok
returns-clause-ok g c = λ v known none.
    on_ok_map c.take_lock.result (λ t. let is = ap (λ m. m.0) t.0 in knows_still (g.D.Disk.trace c.args.self.now.first.value) c.args.self.now.last c.args.self.now.seat.me.0 c.take_lock.new.seat.me.0 (λ a b. LockTaken a b) v known (ap {A = SeatView} (λ z. z.told) is) (ap {A = SeatView} (λ z. pass_store c.args.self.now.last z) is) (ap {A = SeatView} (λ z. ground_of z) is) (ap {A = SeatView} (λ z. z.seen) is) t.1) c.take_lock.ensures.taken

pub returns-clause-stuck : goal.returns-clause-stuck
returns-clause-stuck g c = λ v known none.
    if_err_map (λ place. (c.take_lock.new.seat.me ≡ (stuck_view place c.args.self.now.seat.me.0, c.args.self.now.seat.me.1)) × (c.args.self.now.seat.me.0.told ≡ true → FoundStuck place (view_of c.args.self.now.seat.me.0) (view_of c.take_lock.new.seat.me.0))) (λ place. (u : View) × KnowsIt (g.D.Disk.trace c.args.self.now.first.value) c.args.self.now.last c.take_lock.new.seat.me.0 u × FoundStuck place v u) c.take_lock.result
    (λ place t. let is = ap (λ m. m.0) t.0 in knows_still (g.D.Disk.trace c.args.self.now.first.value) c.args.self.now.last c.args.self.now.seat.me.0 c.take_lock.new.seat.me.0 (λ a b. FoundStuck place a b) v known (ap {A = SeatView} (λ z. z.told) is) (ap {A = SeatView} (λ z. pass_store c.args.self.now.last z) is) (ap {A = SeatView} (λ z. ground_of z) is) (ap {A = SeatView} (λ z. z.seen) is) t.1) c.take_lock.ensures.stuck

pub take_lock-requires-clause-sits : goal.take_lock-requires-clause-sits
take_lock-requires-clause-sits g c = sits_so c.args.self.now.seat.me.0 c.args.self.now.sitting

pub returns-clause-mounted : goal.returns-clause-mounted
returns-clause-mounted g c =
    let kin : c.take_lock.new.seat.me.0.kin ≡ c.args.self.now.seat.me.0.kin = on_taken (λ place. (c.take_lock.new.seat.me ≡ (stuck_view place c.args.self.now.seat.me.0, c.args.self.now.seat.me.1)) × (c.args.self.now.seat.me.0.told ≡ true → FoundStuck place (view_of c.args.self.now.seat.me.0) (view_of c.take_lock.new.seat.me.0))) c.take_lock.result c.take_lock.ensures.taken c.take_lock.ensures.stuck (λ t. ap {A = SeatView} (λ z. z.kin) (ap (λ m. m.0) t.0)) (λ place t. ap {A = SeatView} (λ z. z.kin) (ap (λ m. m.0) t.0)) in
    let benches : c.take_lock.new.seat.me.0.bench_failures ≡ c.args.self.now.seat.me.0.bench_failures = on_taken (λ place. (c.take_lock.new.seat.me ≡ (stuck_view place c.args.self.now.seat.me.0, c.args.self.now.seat.me.1)) × (c.args.self.now.seat.me.0.told ≡ true → FoundStuck place (view_of c.args.self.now.seat.me.0) (view_of c.take_lock.new.seat.me.0))) c.take_lock.result c.take_lock.ensures.taken c.take_lock.ensures.stuck (λ t. ap {A = SeatView} (λ z. z.bench_failures) (ap (λ m. m.0) t.0)) (λ place t. ap {A = SeatView} (λ z. z.bench_failures) (ap (λ m. m.0) t.0)) in
    mounted_still (g.D.Disk.mount_path c.args.self.now.first.value) c.args.self.now.seat.table_id c.take_lock.new.seat.table_id c.args.self.now.seat.me.0 c.take_lock.new.seat.me.0 c.take_lock.ensures.same.0 kin benches

pub invariant_of-self-clause-sitting : goal.invariant_of-self-clause-sitting
invariant_of-self-clause-sitting g c =
    let kin : c.take_lock.new.seat.me.0.kin ≡ c.args.self.now.seat.me.0.kin = on_taken (λ place. (c.take_lock.new.seat.me ≡ (stuck_view place c.args.self.now.seat.me.0, c.args.self.now.seat.me.1)) × (c.args.self.now.seat.me.0.told ≡ true → FoundStuck place (view_of c.args.self.now.seat.me.0) (view_of c.take_lock.new.seat.me.0))) c.take_lock.result c.take_lock.ensures.taken c.take_lock.ensures.stuck (λ t. ap {A = SeatView} (λ z. z.kin) (ap (λ m. m.0) t.0)) (λ place t. ap {A = SeatView} (λ z. z.kin) (ap (λ m. m.0) t.0)) in
    stays c.args.self.now.seat.me.0 c.take_lock.new.seat.me.0 kin c.args.self.now.sitting
