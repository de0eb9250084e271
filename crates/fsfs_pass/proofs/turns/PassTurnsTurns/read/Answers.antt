use Rattle.std.proofs.Common.{ap, subst, ◌∙◌, ◌≡◌, ◌<◌, ◌^◌, ℕ}
use Rattle.std.specs.Prelude.{List, Some, IfOk, slice_get}
use Rattle.fsfs_layout.specs.Small.{IsRevLine}
use Rattle.fsfs_layout.specs.Hash.Dump.{IsDump}
use Rattle.fsfs_disk.specs.Trace.{IsRead}
use Rattle.fsfs_machine.specs.declared.machine.Went.{Went}
use Rattle.fsfs_turn.specs.Views.{View, props_name, Answers}
use Rattle.fsfs_turn.specs.Past.{IsWhole}
use Rattle.fsfs_turn.specs.Courses.{ReadOnly}
use Rattle.fsfs_turn.specs.Learning.{PropsRead, FloorRead}
use Rattle.fsfs_pass.specs.declared.seats.seat_view.SeatView.{SeatView}
use Rattle.fsfs_pass.specs.Seats.{view_of}
use Rattle.fsfs_pass.specs.Passes.{KnowsIt}
use Rattle.fsfs_pass.proofs.Turning.{Keeps, back_keeps, low_on, knows_now, knows_on, sits_so, stays, mounted_still}
use Rattle.fsfs_pass.proofs.turns.PassTurnsTurns.read.Goals as goal

pub invariant_of-self : goal.invariant_of-self
invariant_of-self g c =
    let k : Keeps c.args.self.now.seat.me.0 c.read.new.seat.me.0 = back_keeps _ c.args.self.now.seat.me.0 c.read.new.seat.me.0 c.read.ensures.back c.read.ensures.tells c.read.ensures.later in
    record {
      sits = (c.read.ensures.same.0 ∙ c.args.self.now.sits.0, c.args.self.now.sits.1, c.args.self.now.sits.2, c.read.ensures.same.2);
      layout_is = k.layout ∙ c.args.self.now.layout_is;
      sitting = stays c.args.self.now.seat.me.0 c.read.new.seat.me.0 k.kin c.args.self.now.sitting;
      met_told = k.met;
      last_low = low_on c.args.self.now.last c.args.self.now.seat.me.0 c.read.new.seat.me.0 k c.args.self.now.last_low;
      short = k.short;
    }

pub returns-clause-onward : goal.returns-clause-onward
returns-clause-onward g c = λ v known. knows_on (g.D.Disk.trace c.args.self.now.first.value) c.args.self.now.last c.args.self.now.last c.args.self.now.seat.me.0 c.read.new.seat.me.0 (λ a b. ReadOnly a b) v known (ap {A = SeatView} (λ z. z.told) c.read.ensures.back) c.read.ensures.tells c.read.ensures.onward

pub returns-clause-properties : goal.returns-clause-properties
returns-clause-properties g c = λ v r x known.
    subst (λ z. slice_get z.seen r ≡ Some x → r < 2 ^ 32 → c.args.name.now ≡ props_name z r → (u : View) × (went : Went) × (text : List ℕ) × KnowsIt (g.D.Disk.trace c.args.self.now.first.value) c.args.self.now.last c.read.new.seat.me.0 u × Answers c.read.result went × PropsRead r x went z u × IsDump text x.revision.properties × IfOk c.read.result (IsRead (Some text) c.args.offset c.args.buffer.now c.read.new.buffer)) known.is
    (λ at fits named. let t = c.read.ensures.properties known.told r x at fits named in (view_of c.read.new.seat.me.0, t.0, t.1, knows_now (g.D.Disk.trace c.args.self.now.first.value) c.args.self.now.last c.read.new.seat.me.0 known.disk (ap {A = SeatView} (λ z. z.told) c.read.ensures.back ∙ known.told) c.read.ensures.tells, t.2, t.3, t.4, t.5))

pub returns-clause-floor : goal.returns-clause-floor
returns-clause-floor g c = λ v known named.
    subst (λ z. (u : View) × (went : Went) × (floor : ℕ) × (text : List ℕ) × KnowsIt (g.D.Disk.trace c.args.self.now.first.value) c.args.self.now.last c.read.new.seat.me.0 u × Answers c.read.result went × FloorRead floor went z u × IsWhole z.layout floor × IsRevLine text floor × IfOk c.read.result (IsRead (Some text) c.args.offset c.args.buffer.now c.read.new.buffer)) known.is
    (let t = c.read.ensures.floor known.told named in (view_of c.read.new.seat.me.0, t.0, t.1, t.2, knows_now (g.D.Disk.trace c.args.self.now.first.value) c.args.self.now.last c.read.new.seat.me.0 known.disk (ap {A = SeatView} (λ z. z.told) c.read.ensures.back ∙ known.told) c.read.ensures.tells, t.3, t.4, t.5, t.6, t.7))

pub read-requires-clause-sits : goal.read-requires-clause-sits
read-requires-clause-sits g c = sits_so c.args.self.now.seat.me.0 c.args.self.now.sitting

pub returns-clause-mounted : goal.returns-clause-mounted
returns-clause-mounted g c =
    let kin : c.read.new.seat.me.0.kin ≡ c.args.self.now.seat.me.0.kin = ap {A = SeatView} (λ z. z.kin) c.read.ensures.back in
    let benches : c.read.new.seat.me.0.bench_failures ≡ c.args.self.now.seat.me.0.bench_failures = ap {A = SeatView} (λ z. z.bench_failures) c.read.ensures.back in
    mounted_still (g.D.Disk.mount_path c.args.self.now.first.value) c.args.self.now.seat.table_id c.read.new.seat.table_id c.args.self.now.seat.me.0 c.read.new.seat.me.0 c.read.ensures.same.0 kin benches
