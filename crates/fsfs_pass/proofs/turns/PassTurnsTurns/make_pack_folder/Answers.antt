use Rattle.std.proofs.Common.{sym, ap, subst, ◌∙◌, ◌≡◌}
use Rattle.std.specs.Prelude.{true}
use Rattle.fsfs_disk.specs.Trace.{Adopt}
use Rattle.fsfs_machine.specs.declared.machine.Went.TheVariants.{Before}
use Rattle.fsfs_turn.specs.Views.{IsDue, Called}
use Rattle.fsfs_pass.specs.declared.seats.seat_view.SeatView.{SeatView}
use Rattle.fsfs_pass.proofs.Turning.{Keeps, back_keeps, empty_keeps, low_on, knows_on, on_either, on_ok_map, on_err_map, on_err_both, sits_so, stays, mounted_still}
use Rattle.fsfs_pass.proofs.turns.PassTurnsTurns.make_pack_folder.Goals as goal

pub make_pack_folder-requires-clause-due : goal.make_pack_folder-requires-clause-due
make_pack_folder-requires-clause-due g c = λ told. let w = c.requires.due told in (w.1, w.2, w.3, subst (λ z. IsDue z w.1 (Adopt w.2 w.3)) (sym w.4.is) w.5)

pub invariant_of-self : goal.invariant_of-self
invariant_of-self g c =
    let k : Keeps c.args.self.now.seat.me.0 c.make_pack_folder.new.seat.me.0 = on_either c.make_pack_folder.result (on_ok_map c.make_pack_folder.result (λ same. empty_keeps c.args.self.now.seat.me.0 c.make_pack_folder.new.seat.me.0 same c.args.self.now.met_told c.args.self.now.short) c.make_pack_folder.ensures.done) (on_err_map c.make_pack_folder.result (λ b. back_keeps true c.args.self.now.seat.me.0 c.make_pack_folder.new.seat.me.0 b.0 b.1 b.2) c.make_pack_folder.ensures.back) in
    record {
      sits = (c.make_pack_folder.ensures.same.0 ∙ c.args.self.now.sits.0, c.args.self.now.sits.1, c.args.self.now.sits.2, c.make_pack_folder.ensures.same.2);
      layout_is = k.layout ∙ c.args.self.now.layout_is;
      sitting = stays c.args.self.now.seat.me.0 c.make_pack_folder.new.seat.me.0 k.kin c.args.self.now.sitting;
      met_told = k.met;
      last_low = low_on c.args.self.now.last c.args.self.now.seat.me.0 c.make_pack_folder.new.seat.me.0 k c.args.self.now.last_low;
      short = k.short;
    }

pub returns-clause-failed : goal.returns-clause-failed
returns-clause-failed g c = λ v place file bytes known due.
    on_err_both c.make_pack_folder.result (λ b un. knows_on (g.D.Disk.trace c.args.self.now.first.value) c.args.self.now.last c.args.self.now.last c.args.self.now.seat.me.0 c.make_pack_folder.new.seat.me.0 (λ a z. Called place Before a z) v known (ap {A = SeatView} (λ z. z.told) b.0) b.1 (λ told. un place file bytes (subst (λ z. IsDue z place (Adopt file bytes)) (sym known.is) due)))
    c.make_pack_folder.ensures.back (c.make_pack_folder.ensures.unmade known.told)

pub make_pack_folder-requires-clause-sits : goal.make_pack_folder-requires-clause-sits
make_pack_folder-requires-clause-sits g c = sits_so c.args.self.now.seat.me.0 c.args.self.now.sitting

pub returns-clause-mounted : goal.returns-clause-mounted
returns-clause-mounted g c =
    let kin : c.make_pack_folder.new.seat.me.0.kin ≡ c.args.self.now.seat.me.0.kin = on_either c.make_pack_folder.result (on_ok_map c.make_pack_folder.result (λ same. ap {A = SeatView} (λ z. z.kin) same) c.make_pack_folder.ensures.done) (on_err_map c.make_pack_folder.result (λ b. ap {A = SeatView} (λ z. z.kin) b.0) c.make_pack_folder.ensures.back) in
    let benches : c.make_pack_folder.new.seat.me.0.bench_failures ≡ c.args.self.now.seat.me.0.bench_failures = on_either c.make_pack_folder.result (on_ok_map c.make_pack_folder.result (λ same. ap {A = SeatView} (λ z. z.bench_failures) same) c.make_pack_folder.ensures.done) (on_err_map c.make_pack_folder.result (λ b. ap {A = SeatView} (λ z. z.bench_failures) b.0) c.make_pack_folder.ensures.back) in
    mounted_still (g.D.Disk.mount_path c.args.self.now.first.value) c.args.self.now.seat.table_id c.make_pack_folder.new.seat.table_id c.args.self.now.seat.me.0 c.make_pack_folder.new.seat.me.0 c.make_pack_folder.ensures.same.0 kin benches
