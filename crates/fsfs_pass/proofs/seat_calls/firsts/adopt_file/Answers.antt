use Rattle.std.proofs.Common.{◌≡◌, length, sym, ap, subst, ◌∙◌, inr}
use Rattle.std.specs.Prelude.{is_err, unwrap_or}
use Rattle.fsfs_disk.specs.Trace as real
use Rattle.fsfs_pass.specs.declared.seats.seat_view.Hand.TheVariants.{Out}
use Rattle.fsfs_pass.specs.declared.seats.seat_view.SeatView.{SeatView}
use Rattle.fsfs_pass.specs.Seats.{view_of}
use Rattle.fsfs_pass.specs.SeatCalls.Made.{risen}
use Rattle.fsfs_turn.specs.Views.{rev_name}
use Rattle.fsfs_pass.specs.SeatCalls.Tells.{MayAdoptIt, IsPutOf, AdoptedBy, no_adoption}
use Rattle.fsfs_pass.proofs.Answering.{later_call, later_so, made_adopt, back_so, before_so, may_so, adopted_so, cause_so}
use Rattle.fsfs_disk.specs.Benches.{removed, bytes_on}
use Rattle.fsfs_turn.proofs.Knowing.{file_left}
use Rattle.fsfs_pass.proofs.seat_calls.firsts.adopt_file.Goals as goal

pub give_adopted-requires-clause-made : goal.give_adopted-requires-clause-made
give_adopted-requires-clause-made g c = let same = sym c.of-all.ensures in (
  c.take-disk.result,
  (real.Adopt c.args.to.now (bytes_on (g.D.Bench.Bench.contents c.args.bench.now) c.args.file.now)),
  ap (λ m. m.0.hand) c.take-disk.ensures.out,
  later_call c.take-disk.result c.adopt-answer.new.self c.adopt-answer.result c.adopt-answer.ensures.mounted c.adopt-answer.ensures.flag c.adopt-answer.ensures.cause c.adopt-answer.ensures.benches,
  made_adopt c.adopt-answer.new.self.failed c.args.to.now (bytes_on (g.D.Bench.Bench.contents c.args.bench.now) c.args.file.now) c.take-disk.result.trace c.adopt-answer.new.self.trace (removed c.args.file.now) (g.D.Bench.Bench.contents c.args.bench.now) (g.D.Bench.Bench.contents c.adopt-answer.new.bench) c.adopt-answer.result c.adopt-answer.ensures.flag c.adopt-answer.ensures.ok c.adopt-answer.ensures.err,
  may_so (λ v. MayAdoptIt v (unwrap_or c.args.about.now.value no_adoption) c.of-all.result.value × (c.args.to.now ≡ rev_name v (length v.seen)) × IsPutOf c.args.to.now c.of-all.result.value (real.Adopt c.args.to.now (bytes_on (g.D.Bench.Bench.contents c.args.bench.now) c.args.file.now))) c.args.seat.now.me.0 c.take-disk.new.seat.me.0 (Out c.take-disk.result) (ap (λ m. m.0) c.take-disk.ensures.out)
      (λ told. let may = c.requires.may told in (subst (λ bs. MayAdoptIt (view_of c.args.seat.now.me.0) (unwrap_or c.args.about.now.value no_adoption) bs) same may.0, may.1, inr (ap (λ bs. real.Adopt c.args.to.now bs) same))),
)

pub returns-clause-back : goal.returns-clause-back
returns-clause-back g c = back_so c.adopt-answer.new.self.failed (is_err c.adopt-answer.result) c.args.seat.now.me.0 c.take-disk.new.seat.me.0 c.give_adopted.new.seat.me.0 (Out c.take-disk.result) (ap (λ m. m.0) c.take-disk.ensures.out) c.adopt-answer.ensures.flag c.give_adopted.ensures.given.back

pub returns-clause-adopted : goal.returns-clause-adopted
returns-clause-adopted g c told = adopted_so c.adopt-answer.new.self.failed (view_of c.args.seat.now.me.0) (view_of c.give_adopted.new.seat.me.0) (unwrap_or c.args.about.now.value no_adoption) (bytes_on (g.D.Bench.Bench.contents c.args.bench.now) c.args.file.now) c.adopt-answer.result c.adopt-answer.ensures.flag
    (subst (λ bs. AdoptedBy (unwrap_or c.args.about.now.value no_adoption) bs c.adopt-answer.new.self.failed (view_of c.args.seat.now.me.0) (view_of c.give_adopted.new.seat.me.0)) c.of-all.ensures (before_so (λ v. AdoptedBy (unwrap_or c.args.about.now.value no_adoption) c.of-all.result.value c.adopt-answer.new.self.failed v (view_of c.give_adopted.new.seat.me.0)) c.args.seat.now.me.0 c.take-disk.new.seat.me.0 (Out c.take-disk.result) (ap (λ m. m.0) c.take-disk.ensures.out) c.give_adopted.ensures.given.step told))

pub returns-clause-left : goal.returns-clause-left
returns-clause-left g c = file_left (real.Adopt c.args.to.now (bytes_on (g.D.Bench.Bench.contents c.args.bench.now) c.args.file.now)) c.take-disk.result.trace c.adopt-answer.new.self.trace (removed c.args.file.now) (g.D.Bench.Bench.contents c.args.bench.now) (g.D.Bench.Bench.contents c.adopt-answer.new.bench) c.adopt-answer.result c.adopt-answer.ensures.err

pub returns-clause-cause : goal.returns-clause-cause
returns-clause-cause g c = cause_so c.adopt-answer.new.self.failed c.args.seat.now.me.0.failures c.give_adopted.new.seat.me.0.failures c.adopt-answer.result c.adopt-answer.ensures.flag
    (ap (λ (v : SeatView). v.failures) c.give_adopted.ensures.given.back ∙ ap (λ m. risen c.adopt-answer.new.self.failed m.0.failures) c.take-disk.ensures.out)

pub returns-clause-tells : goal.returns-clause-tells
returns-clause-tells g c = c.give_adopted.ensures.given.tells

pub returns-clause-later : goal.returns-clause-later
returns-clause-later g c = later_so c.args.seat.now.me.0 c.take-disk.new.seat.me.0 c.give_adopted.new.seat.me.0 (Out c.take-disk.result) (ap (λ m. m.0) c.take-disk.ensures.out) c.give_adopted.ensures.given.later
