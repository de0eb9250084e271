use Rattle.std.proofs.Common.{ap, ◌∙◌}
use Rattle.std.specs.Prelude.{is_err, IfOk}
use Rattle.fsfs_pass.specs.declared.seats.seat_view.Hand.TheVariants.{Out}
use Rattle.fsfs_pass.specs.declared.seats.seat_view.SeatView.{SeatView}
use Rattle.fsfs_pass.specs.Seats.{view_of}
use Rattle.fsfs_pass.specs.SeatCalls.Made.{risen, went_of}
use Rattle.std.specs.FinMap.{get}
use Rattle.fsfs_disk.specs.Trace.{IsSize}
use Rattle.fsfs_pass.specs.SeatCalls.Tells.{ReadBy}
use Rattle.fsfs_pass.proofs.Answering.{later_call, back_so, later_so, before_so, cause_so}
use Rattle.fsfs_pass.proofs.MetLabels.{of_files}
use Rattle.fsfs_pass.proofs.seat_calls.reads.size.Goals as goal

pub give_read-requires-clause-out : goal.give_read-requires-clause-out
give_read-requires-clause-out g c = (
  c.take-disk.result,
  ap (λ m. m.0.hand) c.take-disk.ensures.out,
  later_call c.take-disk.result c.size-answer.new.self c.size-answer.result c.size-answer.ensures.mounted c.size-answer.ensures.flag c.size-answer.ensures.cause c.size-answer.ensures.benches,
  c.size-answer.ensures.same,
)

pub returns-clause-back : goal.returns-clause-back
returns-clause-back g c = back_so c.size-answer.new.self.failed (is_err c.size-answer.result) c.args.seat.now.me.0 c.take-disk.new.seat.me.0 c.give_read.new.seat.me.0 (Out c.take-disk.result) (ap (λ m. m.0) c.take-disk.ensures.out) c.size-answer.ensures.flag c.give_read.ensures.given.back

pub returns-clause-length : goal.returns-clause-length
returns-clause-length g c = of_files c.give_read.new.seat.me.0 c.take-disk.result.trace c.size-answer.new.self.trace (λ m. IfOk c.size-answer.result (IsSize (get m c.args.name.now))) c.give_read.ensures.given.left c.size-answer.ensures.same c.size-answer.ensures.length

pub returns-clause-onward : goal.returns-clause-onward
returns-clause-onward g c told = (before_so (λ v. ReadBy c.args.name.now c.size-answer.new.self.trace (went_of c.size-answer.new.self.failed) v (view_of c.give_read.new.seat.me.0)) c.args.seat.now.me.0 c.take-disk.new.seat.me.0 (Out c.take-disk.result) (ap (λ m. m.0) c.take-disk.ensures.out) c.give_read.ensures.given.step told).onward

pub returns-clause-cause : goal.returns-clause-cause
returns-clause-cause g c = cause_so c.size-answer.new.self.failed c.args.seat.now.me.0.failures c.give_read.new.seat.me.0.failures c.size-answer.result c.size-answer.ensures.flag
    (ap (λ (v : SeatView). v.failures) c.give_read.ensures.given.back ∙ ap (λ m. risen c.size-answer.new.self.failed m.0.failures) c.take-disk.ensures.out)

pub returns-clause-tells : goal.returns-clause-tells
returns-clause-tells g c = c.give_read.ensures.given.tells

pub returns-clause-later : goal.returns-clause-later
returns-clause-later g c = later_so c.args.seat.now.me.0 c.take-disk.new.seat.me.0 c.give_read.new.seat.me.0 (Out c.take-disk.result) (ap (λ m. m.0) c.take-disk.ensures.out) c.give_read.ensures.given.later
