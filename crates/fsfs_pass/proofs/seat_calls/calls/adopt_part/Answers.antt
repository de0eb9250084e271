use Rattle.std.proofs.Common.{ap, ◌∙◌}
use Rattle.std.specs.Prelude.{is_err}
use Rattle.fsfs_disk.specs.Benches.{removed, bytes_on}
use Rattle.fsfs_disk.specs.Trace as real
use Rattle.fsfs_base.specs.declared.places.place.DiskPlace.{DiskPlace}
use Rattle.fsfs_pass.specs.declared.seats.seat_view.Hand.TheVariants.{Out}
use Rattle.fsfs_pass.specs.declared.seats.seat_view.SeatView.{SeatView}
use Rattle.fsfs_pass.specs.Seats.{view_of}
use Rattle.fsfs_pass.specs.SeatCalls.Made.{risen}
use Rattle.fsfs_turn.specs.Views.{IsDue}
use Rattle.fsfs_turn.proofs.Knowing.{file_left}
use Rattle.fsfs_pass.specs.SeatCalls.Tells.{CalledBy}
use Rattle.fsfs_pass.proofs.Answering.{later_call, later_so, made_adopt, back_so, before_so, may_so, called_so, cause_so}
use Rattle.fsfs_pass.proofs.seat_calls.calls.adopt_part.Goals as goal

pub give_called-requires-clause-made : goal.give_called-requires-clause-made
give_called-requires-clause-made g c = (
  c.take-disk.result,
  (real.Adopt c.args.to.now (bytes_on (g.D.Bench.Bench.contents c.args.bench.now) c.args.file.now)),
  ap (λ m. m.0.hand) c.take-disk.ensures.out,
  later_call c.take-disk.result c.adopt-answer.new.self c.adopt-answer.result c.adopt-answer.ensures.mounted c.adopt-answer.ensures.flag c.adopt-answer.ensures.cause c.adopt-answer.ensures.benches,
  made_adopt c.adopt-answer.new.self.failed c.args.to.now (bytes_on (g.D.Bench.Bench.contents c.args.bench.now) c.args.file.now) c.take-disk.result.trace c.adopt-answer.new.self.trace (removed c.args.file.now) (g.D.Bench.Bench.contents c.args.bench.now) (g.D.Bench.Bench.contents c.adopt-answer.new.bench) c.adopt-answer.result c.adopt-answer.ensures.flag c.adopt-answer.ensures.ok c.adopt-answer.ensures.err,
  may_so (λ v. (place : DiskPlace) × IsDue v place (real.Adopt c.args.to.now (bytes_on (g.D.Bench.Bench.contents c.args.bench.now) c.args.file.now))) c.args.seat.now.me.0 c.take-disk.new.seat.me.0 (Out c.take-disk.result) (ap (λ m. m.0) c.take-disk.ensures.out) c.requires.due,
)

pub returns-clause-back : goal.returns-clause-back
returns-clause-back g c = back_so c.adopt-answer.new.self.failed (is_err c.adopt-answer.result) c.args.seat.now.me.0 c.take-disk.new.seat.me.0 c.give_called.new.seat.me.0 (Out c.take-disk.result) (ap (λ m. m.0) c.take-disk.ensures.out) c.adopt-answer.ensures.flag c.give_called.ensures.given.back

pub returns-clause-called : goal.returns-clause-called
returns-clause-called g c told place due = called_so c.adopt-answer.new.self.failed (view_of c.args.seat.now.me.0) (view_of c.give_called.new.seat.me.0) place (real.Adopt c.args.to.now (bytes_on (g.D.Bench.Bench.contents c.args.bench.now) c.args.file.now)) c.adopt-answer.result c.adopt-answer.ensures.flag
    (before_so (λ v. CalledBy c.adopt-answer.new.self.failed v (view_of c.give_called.new.seat.me.0)) c.args.seat.now.me.0 c.take-disk.new.seat.me.0 (Out c.take-disk.result) (ap (λ m. m.0) c.take-disk.ensures.out) c.give_called.ensures.given.step told) due

pub returns-clause-left : goal.returns-clause-left
returns-clause-left g c = file_left (real.Adopt c.args.to.now (bytes_on (g.D.Bench.Bench.contents c.args.bench.now) c.args.file.now)) c.take-disk.result.trace c.adopt-answer.new.self.trace (removed c.args.file.now) (g.D.Bench.Bench.contents c.args.bench.now) (g.D.Bench.Bench.contents c.adopt-answer.new.bench) c.adopt-answer.result c.adopt-answer.ensures.err

pub returns-clause-cause : goal.returns-clause-cause
returns-clause-cause g c = cause_so c.adopt-answer.new.self.failed c.args.seat.now.me.0.failures c.give_called.new.seat.me.0.failures c.adopt-answer.result c.adopt-answer.ensures.flag
    (ap (λ (v : SeatView). v.failures) c.give_called.ensures.given.back ∙ ap (λ m. risen c.adopt-answer.new.self.failed m.0.failures) c.take-disk.ensures.out)

pub returns-clause-tells : goal.returns-clause-tells
returns-clause-tells g c = c.give_called.ensures.given.tells

pub returns-clause-later : goal.returns-clause-later
returns-clause-later g c = later_so c.args.seat.now.me.0 c.take-disk.new.seat.me.0 c.give_called.new.seat.me.0 (Out c.take-disk.result) (ap (λ m. m.0) c.take-disk.ensures.out) c.give_called.ensures.given.later
