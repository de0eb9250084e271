use Rattle.std.proofs.Common.{ap, ◌∙◌}
use Rattle.std.specs.Prelude.{is_err, IfOk}
use Rattle.fsfs_pass.specs.declared.seats.seat_view.Hand.TheVariants.{Out}
use Rattle.fsfs_pass.specs.declared.seats.seat_view.SeatView.{SeatView}
use Rattle.fsfs_pass.specs.Seats.{view_of}
use Rattle.fsfs_pass.specs.SeatCalls.Made.{risen, went_of}
use Rattle.std.specs.FinMap.{get}
use Rattle.fsfs_disk.specs.Trace.{IsRead}
use Rattle.fsfs_pass.specs.SeatCalls.Tells.{ReadBy}
use Rattle.fsfs_pass.proofs.Answering.{later_call, back_so, later_so, before_so, cause_so}
use Rattle.fsfs_pass.proofs.MetLabels.{of_files}
use Rattle.fsfs_pass.proofs.Reading.{taken_so, props_tell, floor_tells}
use Rattle.fsfs_pass.proofs.seat_calls.reads.read.Goals as goal

pub give_read-requires-clause-out : goal.give_read-requires-clause-out
give_read-requires-clause-out g c = (
  c.take-disk.result,
  ap (λ m. m.0.hand) c.take-disk.ensures.out,
  later_call c.take-disk.result c.read-answer.new.self c.read-answer.result c.read-answer.ensures.mounted c.read-answer.ensures.flag c.read-answer.ensures.cause c.read-answer.ensures.benches,
  c.read-answer.ensures.same,
)

pub returns-clause-back : goal.returns-clause-back
returns-clause-back g c = back_so c.read-answer.new.self.failed (is_err c.read-answer.result) c.args.seat.now.me.0 c.take-disk.new.seat.me.0 c.give_read.new.seat.me.0 (Out c.take-disk.result) (ap (λ m. m.0) c.take-disk.ensures.out) c.read-answer.ensures.flag c.give_read.ensures.given.back

pub returns-clause-bytes : goal.returns-clause-bytes
returns-clause-bytes g c = of_files c.give_read.new.seat.me.0 c.take-disk.result.trace c.read-answer.new.self.trace (λ m. IfOk c.read-answer.result (IsRead (get m c.args.name.now) c.args.offset c.args.buffer.now c.read-answer.new.buffer)) c.give_read.ensures.given.left c.read-answer.ensures.same c.read-answer.ensures.bytes

pub returns-clause-onward : goal.returns-clause-onward
returns-clause-onward g c told = (before_so (λ v. ReadBy c.args.name.now c.read-answer.new.self.trace (went_of c.read-answer.new.self.failed) v (view_of c.give_read.new.seat.me.0)) c.args.seat.now.me.0 c.take-disk.new.seat.me.0 (Out c.take-disk.result) (ap (λ m. m.0) c.take-disk.ensures.out) c.give_read.ensures.given.step told).onward

pub returns-clause-properties : goal.returns-clause-properties
returns-clause-properties g c told r x there fits named = props_tell c.read-answer.new.self.failed c.args.seat.now.me.0 c.give_read.new.seat.me.0 c.take-disk.result.trace c.read-answer.new.self.trace (taken_so c.args.seat.now.me.0 c.take-disk.result.trace c.take-disk.ensures.told c.take-disk.ensures.met told) c.read-answer.ensures.same c.args.name.now c.args.buffer.now c.read-answer.new.buffer c.args.offset c.read-answer.result c.read-answer.ensures.flag c.read-answer.ensures.bytes
    (before_so (λ v. ReadBy c.args.name.now c.read-answer.new.self.trace (went_of c.read-answer.new.self.failed) v (view_of c.give_read.new.seat.me.0)) c.args.seat.now.me.0 c.take-disk.new.seat.me.0 (Out c.take-disk.result) (ap (λ m. m.0) c.take-disk.ensures.out) c.give_read.ensures.given.step told) r x there fits named

pub returns-clause-floor : goal.returns-clause-floor
returns-clause-floor g c told named = floor_tells c.read-answer.new.self.failed c.args.seat.now.me.0 c.give_read.new.seat.me.0 c.take-disk.result.trace c.read-answer.new.self.trace (taken_so c.args.seat.now.me.0 c.take-disk.result.trace c.take-disk.ensures.told c.take-disk.ensures.met told) c.read-answer.ensures.same c.args.name.now c.args.buffer.now c.read-answer.new.buffer c.args.offset c.read-answer.result c.read-answer.ensures.flag c.read-answer.ensures.bytes
    (before_so (λ v. ReadBy c.args.name.now c.read-answer.new.self.trace (went_of c.read-answer.new.self.failed) v (view_of c.give_read.new.seat.me.0)) c.args.seat.now.me.0 c.take-disk.new.seat.me.0 (Out c.take-disk.result) (ap (λ m. m.0) c.take-disk.ensures.out) c.give_read.ensures.given.step told) named

pub returns-clause-cause : goal.returns-clause-cause
returns-clause-cause g c = cause_so c.read-answer.new.self.failed c.args.seat.now.me.0.failures c.give_read.new.seat.me.0.failures c.read-answer.result c.read-answer.ensures.flag
    (ap (λ (v : SeatView). v.failures) c.give_read.ensures.given.back ∙ ap (λ m. risen c.read-answer.new.self.failed m.0.failures) c.take-disk.ensures.out)

pub returns-clause-tells : goal.returns-clause-tells
returns-clause-tells g c = c.give_read.ensures.given.tells

pub returns-clause-later : goal.returns-clause-later
returns-clause-later g c = later_so c.args.seat.now.me.0 c.take-disk.new.seat.me.0 c.give_read.new.seat.me.0 (Out c.take-disk.result) (ap (λ m. m.0) c.take-disk.ensures.out) c.give_read.ensures.given.later
