use Rattle.std.proofs.Common.{ap, ◌∙◌}
use Rattle.std.specs.Prelude.{is_err}
use Rattle.fsfs_disk.specs.Trace as real
use Rattle.fsfs_base.specs.declared.places.place.DiskPlace.{DiskPlace}
use Rattle.fsfs_pass.specs.declared.seats.seat_view.Hand.TheVariants.{Out}
use Rattle.fsfs_pass.specs.declared.seats.seat_view.SeatView.{SeatView}
use Rattle.fsfs_pass.specs.Seats.{view_of}
use Rattle.fsfs_pass.specs.SeatCalls.Made.{risen}
use Rattle.fsfs_turn.specs.Views.{IsDue}
use Rattle.fsfs_pass.specs.SeatCalls.Tells.{CalledBy}
use Rattle.fsfs_pass.proofs.Answering.{later_call, later_so, made_rename, back_so, before_so, may_so, called_so, cause_so}
use Rattle.fsfs_pass.proofs.Meeting.{rename_there}
use Rattle.fsfs_pass.proofs.seat_calls.calls.rename.Goals as goal

pub rename-answer-requires : goal.rename-answer-requires
rename-answer-requires g c = rename_there c.args.seat.now.me.0 c.take-disk.result.trace c.args.from.now c.args.to.now c.take-disk.ensures.told c.take-disk.ensures.met c.requires.due

pub give_called-requires-clause-made : goal.give_called-requires-clause-made
give_called-requires-clause-made g c = (
  c.take-disk.result,
  (real.Rename c.args.from.now c.args.to.now),
  ap (λ m. m.0.hand) c.take-disk.ensures.out,
  later_call c.take-disk.result c.rename-answer.new.self c.rename-answer.result c.rename-answer.ensures.mounted c.rename-answer.ensures.flag c.rename-answer.ensures.cause c.rename-answer.ensures.benches,
  made_rename c.rename-answer.new.self.failed c.args.from.now c.args.to.now c.take-disk.result.trace c.rename-answer.new.self.trace c.rename-answer.result c.rename-answer.ensures.flag c.rename-answer.ensures.ok c.rename-answer.ensures.err,
  may_so (λ v. (place : DiskPlace) × IsDue v place (real.Rename c.args.from.now c.args.to.now)) c.args.seat.now.me.0 c.take-disk.new.seat.me.0 (Out c.take-disk.result) (ap (λ m. m.0) c.take-disk.ensures.out) c.requires.due,
)

pub returns-clause-back : goal.returns-clause-back
returns-clause-back g c = back_so c.rename-answer.new.self.failed (is_err c.rename-answer.result) c.args.seat.now.me.0 c.take-disk.new.seat.me.0 c.give_called.new.seat.me.0 (Out c.take-disk.result) (ap (λ m. m.0) c.take-disk.ensures.out) c.rename-answer.ensures.flag c.give_called.ensures.given.back

pub returns-clause-called : goal.returns-clause-called
returns-clause-called g c told place due = called_so c.rename-answer.new.self.failed (view_of c.args.seat.now.me.0) (view_of c.give_called.new.seat.me.0) place (real.Rename c.args.from.now c.args.to.now) c.rename-answer.result c.rename-answer.ensures.flag
    (before_so (λ v. CalledBy c.rename-answer.new.self.failed v (view_of c.give_called.new.seat.me.0)) c.args.seat.now.me.0 c.take-disk.new.seat.me.0 (Out c.take-disk.result) (ap (λ m. m.0) c.take-disk.ensures.out) c.give_called.ensures.given.step told) due

pub returns-clause-cause : goal.returns-clause-cause
returns-clause-cause g c = cause_so c.rename-answer.new.self.failed c.args.seat.now.me.0.failures c.give_called.new.seat.me.0.failures c.rename-answer.result c.rename-answer.ensures.flag
    (ap (λ (v : SeatView). v.failures) c.give_called.ensures.given.back ∙ ap (λ m. risen c.rename-answer.new.self.failed m.0.failures) c.take-disk.ensures.out)

pub returns-clause-tells : goal.returns-clause-tells
returns-clause-tells g c = c.give_called.ensures.given.tells

pub returns-clause-later : goal.returns-clause-later
returns-clause-later g c = later_so c.args.seat.now.me.0 c.take-disk.new.seat.me.0 c.give_called.new.seat.me.0 (Out c.take-disk.result) (ap (λ m. m.0) c.take-disk.ensures.out) c.give_called.ensures.given.later
