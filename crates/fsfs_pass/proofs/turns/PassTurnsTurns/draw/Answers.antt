use Rattle.std.proofs.Common.{sym, ap, subst, ◌∙◌, ◌≡◌, ◌≤◌}
use Rattle.std.specs.Prelude.{Some}
use Rattle.fsfs_machine.specs.declared.machine.Section.TheVariants.{Begun}
use Rattle.fsfs_turn.specs.Learning.{ReadsCounter}
use Rattle.fsfs_pass.specs.declared.seats.seat_view.SeatView.{SeatView}
use Rattle.fsfs_pass.specs.Met.{seat_store}
use Rattle.fsfs_pass.specs.Passes.{KnowsIt}
use Rattle.fsfs_pass.proofs.Turning.{Keeps, back_keeps, low_on, knows_now, sits_so, stays, mounted_still}
use Rattle.fsfs_pass.proofs.turns.PassTurnsTurns.draw.Goals as goal

pub invariant_of-self : goal.invariant_of-self
invariant_of-self g c =
    let k : Keeps c.args.self.now.seat.me.0 c.draw.new.seat.me.0 = back_keeps _ c.args.self.now.seat.me.0 c.draw.new.seat.me.0 c.draw.ensures.back c.draw.ensures.tells c.draw.ensures.later in
    record {
      sits = (c.draw.ensures.same.0 ∙ c.args.self.now.sits.0, c.args.self.now.sits.1, c.args.self.now.sits.2, c.draw.ensures.same.2);
      layout_is = k.layout ∙ c.args.self.now.layout_is;
      sitting = stays c.args.self.now.seat.me.0 c.draw.new.seat.me.0 k.kin c.args.self.now.sitting;
      met_told = k.met;
      last_low = low_on c.args.self.now.last c.args.self.now.seat.me.0 c.draw.new.seat.me.0 k c.args.self.now.last_low;
      short = k.short;
    }

pub returns-clause-drawn : goal.returns-clause-drawn
returns-clause-drawn g c = λ v known.
    let k = knows_now (g.D.Disk.trace c.args.self.now.first.value) c.args.self.now.last c.draw.new.seat.me.0 known.disk (ap {A = SeatView} (λ z. z.told) c.draw.ensures.back ∙ known.told) c.draw.ensures.tells in
    subst (λ z. z.section ≡ Some Begun → c.args.base ≤ z.pass.least → ReadsCounter (λ u. KnowsIt (g.D.Disk.trace c.args.self.now.first.value) c.args.self.now.last c.draw.new.seat.me.0 u) (seat_store c.draw.new.seat.me.0).files c.args.base c.draw.result c.args.buffer.now c.draw.new.buffer z) known.is
    (λ begun at_most.
    let r = c.draw.ensures.drawn known.told in
    record {
      text = r.text;
      number = r.number;
      line = r.line;
      files = r.files;
      files_are = r.files_are;
      there = r.there;
      read = r.read;
      turned = λ few. let t = r.turned few in (t.0, t.1, subst (λ u. KnowsIt (g.D.Disk.trace c.args.self.now.first.value) c.args.self.now.last c.draw.new.seat.me.0 u) (sym t.2) k, t.3, t.4);
      full = λ many. subst (λ u. KnowsIt (g.D.Disk.trace c.args.self.now.first.value) c.args.self.now.last c.draw.new.seat.me.0 u) (sym (r.full many)) k;
    })

pub draw-requires-clause-sits : goal.draw-requires-clause-sits
draw-requires-clause-sits g c = sits_so c.args.self.now.seat.me.0 c.args.self.now.sitting

pub returns-clause-mounted : goal.returns-clause-mounted
returns-clause-mounted g c =
    let kin : c.draw.new.seat.me.0.kin ≡ c.args.self.now.seat.me.0.kin = ap {A = SeatView} (λ z. z.kin) c.draw.ensures.back in
    let benches : c.draw.new.seat.me.0.bench_failures ≡ c.args.self.now.seat.me.0.bench_failures = ap {A = SeatView} (λ z. z.bench_failures) c.draw.ensures.back in
    mounted_still (g.D.Disk.mount_path c.args.self.now.first.value) c.args.self.now.seat.table_id c.draw.new.seat.table_id c.args.self.now.seat.me.0 c.draw.new.seat.me.0 c.draw.ensures.same.0 kin benches
