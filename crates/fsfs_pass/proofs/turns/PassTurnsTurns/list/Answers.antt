use Rattle.std.proofs.Common.{ap, ◌∙◌, ◌≡◌}
use Rattle.std.specs.Prelude.{true, false}
use Rattle.fsfs_machine.specs.declared.machine.Went.TheVariants.{Fine, Before}
use Rattle.fsfs_turn.specs.Learning.{Listed}
use Rattle.fsfs_pass.specs.declared.seats.seat_view.SeatView.{SeatView}
use Rattle.fsfs_pass.proofs.Turning.{Keeps, back_keeps, empty_keeps, low_on, knows_on, known_empty, on_listing, on_ok_map, on_ok_both, sits_so, stays, mounted_still}
use Rattle.fsfs_pass.proofs.turns.PassTurnsTurns.list.Goals as goal

pub invariant_of-self : goal.invariant_of-self
invariant_of-self g c =
    let k : Keeps c.args.self.now.seat.me.0 c.list.new.seat.me.0 = on_listing c.list.result (on_ok_map c.list.result (λ b. back_keeps false c.args.self.now.seat.me.0 c.list.new.seat.me.0 b.0 b.1 b.2) c.list.ensures.ok) (λ failed. let b = c.list.ensures.failed failed in back_keeps true c.args.self.now.seat.me.0 c.list.new.seat.me.0 b.0 b.1 b.2) (λ wanting. empty_keeps c.args.self.now.seat.me.0 c.list.new.seat.me.0 (c.list.ensures.memory wanting) c.args.self.now.met_told c.args.self.now.short) in
    record {
      sits = (c.list.ensures.same.0 ∙ c.args.self.now.sits.0, c.args.self.now.sits.1, c.args.self.now.sits.2, c.list.ensures.same.2);
      layout_is = k.layout ∙ c.args.self.now.layout_is;
      sitting = stays c.args.self.now.seat.me.0 c.list.new.seat.me.0 k.kin c.args.self.now.sitting;
      met_told = k.met;
      last_low = low_on c.args.self.now.last c.args.self.now.seat.me.0 c.list.new.seat.me.0 k c.args.self.now.last_low;
      short = k.short;
    }

pub returns-clause-ok : goal.returns-clause-ok
returns-clause-ok g c = λ v known.
    on_ok_both c.list.result (λ b l.
    let t = knows_on (g.D.Disk.trace c.args.self.now.first.value) c.args.self.now.last c.args.self.now.last c.args.self.now.seat.me.0 c.list.new.seat.me.0 (λ a z. Listed l.0 Fine a z) v known (ap {A = SeatView} (λ z. z.told) b.0) b.1 (λ told. l.2) in
    (l.0, l.1, t.0, t.1, t.2)) c.list.ensures.ok (c.list.ensures.listed known.told)

pub returns-clause-failed : goal.returns-clause-failed
returns-clause-failed g c = λ v known failed.
    let b = c.list.ensures.failed failed in
    let l = c.list.ensures.unlisted known.told failed in
    let t = knows_on (g.D.Disk.trace c.args.self.now.first.value) c.args.self.now.last c.args.self.now.last c.args.self.now.seat.me.0 c.list.new.seat.me.0 (λ a z. Listed l.0 Before a z) v known (ap {A = SeatView} (λ z. z.told) b.0) b.1 (λ told. l.2) in
    (l.0, l.1, t.0, t.1, t.2)

pub returns-clause-memory : goal.returns-clause-memory
returns-clause-memory g c = λ v known wanting. known_empty (g.D.Disk.trace c.args.self.now.first.value) c.args.self.now.last c.args.self.now.seat.me.0 c.list.new.seat.me.0 v known (c.list.ensures.memory wanting)

pub list-requires-clause-sits : goal.list-requires-clause-sits
list-requires-clause-sits g c = sits_so c.args.self.now.seat.me.0 c.args.self.now.sitting

pub returns-clause-mounted : goal.returns-clause-mounted
returns-clause-mounted g c =
    let kin : c.list.new.seat.me.0.kin ≡ c.args.self.now.seat.me.0.kin = on_listing c.list.result (on_ok_map c.list.result (λ b. ap {A = SeatView} (λ z. z.kin) b.0) c.list.ensures.ok) (λ failed. ap {A = SeatView} (λ z. z.kin) (c.list.ensures.failed failed).0) (λ wanting. ap {A = SeatView} (λ z. z.kin) (c.list.ensures.memory wanting)) in
    let benches : c.list.new.seat.me.0.bench_failures ≡ c.args.self.now.seat.me.0.bench_failures = on_listing c.list.result (on_ok_map c.list.result (λ b. ap {A = SeatView} (λ z. z.bench_failures) b.0) c.list.ensures.ok) (λ failed. ap {A = SeatView} (λ z. z.bench_failures) (c.list.ensures.failed failed).0) (λ wanting. ap {A = SeatView} (λ z. z.bench_failures) (c.list.ensures.memory wanting)) in
    mounted_still (g.D.Disk.mount_path c.args.self.now.first.value) c.args.self.now.seat.table_id c.list.new.seat.table_id c.args.self.now.seat.me.0 c.list.new.seat.me.0 c.list.ensures.same.0 kin benches
