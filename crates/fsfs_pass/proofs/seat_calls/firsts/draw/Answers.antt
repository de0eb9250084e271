use Rattle.std.proofs.Common.{◌≡◌, ◌≤◌, ap, subst, ◌∙◌, Some}
use Rattle.std.specs.Prelude.{is_err, IfOk, IfSome}
use Rattle.fsfs_pass.specs.declared.seats.seat_view.Hand.TheVariants.{Out}
use Rattle.fsfs_pass.specs.declared.seats.seat_view.SeatView.{SeatView}
use Rattle.fsfs_pass.specs.Seats.{view_of}
use Rattle.fsfs_pass.specs.SeatCalls.Made.{risen, went_of}
use Rattle.std.specs.FinMap.{get}
use Rattle.fsfs_disk.specs.Trace.{IsRead}
use Rattle.fsfs_machine.specs.declared.machine.Section.TheVariants.{Begun}
use Rattle.fsfs_pass.specs.Met.{seat_store}
use Rattle.fsfs_pass.specs.SeatCalls.Tells.{DrawnBy}
use Rattle.fsfs_pass.proofs.Answering.{later_call, back_so, later_so, before_so, may_so, cause_so}
use Rattle.fsfs_pass.proofs.MetLabels.{of_files}
use Rattle.fsfs_pass.proofs.Reading.{drawn_tells}
use Rattle.fsfs_pass.proofs.seat_calls.firsts.draw.Goals as goal

pub give_drawn-requires-clause-out : goal.give_drawn-requires-clause-out
give_drawn-requires-clause-out g c = (
  c.take-disk.result,
  ap (λ m. m.0.hand) c.take-disk.ensures.out,
  later_call c.take-disk.result c.read-answer.new.self c.read-answer.result c.read-answer.ensures.mounted c.read-answer.ensures.flag c.read-answer.ensures.cause c.read-answer.ensures.benches,
  c.read-answer.ensures.same,
)

pub give_drawn-requires-clause-may : goal.give_drawn-requires-clause-may
give_drawn-requires-clause-may g c = may_so (λ v. (v.section ≡ Some Begun) × (c.args.base ≤ v.pass.least)) c.args.seat.now.me.0 c.take-disk.new.seat.me.0 (Out c.take-disk.result) (ap (λ m. m.0) c.take-disk.ensures.out) c.requires.may

pub returns-clause-back : goal.returns-clause-back
returns-clause-back g c = back_so c.read-answer.new.self.failed (is_err c.read-answer.result) c.args.seat.now.me.0 c.take-disk.new.seat.me.0 c.give_drawn.new.seat.me.0 (Out c.take-disk.result) (ap (λ m. m.0) c.take-disk.ensures.out) c.read-answer.ensures.flag c.give_drawn.ensures.given.back

pub returns-clause-bytes : goal.returns-clause-bytes
returns-clause-bytes g c = subst (λ name. IfSome (seat_store c.give_drawn.new.seat.me.0).files (λ m. IfOk c.read-answer.result (IsRead (get m name) 0 c.args.buffer.now c.read-answer.new.buffer))) c.name-current.ensures
    (of_files c.give_drawn.new.seat.me.0 c.take-disk.result.trace c.read-answer.new.self.trace (λ m. IfOk c.read-answer.result (IsRead (get m c.name-current.result) 0 c.args.buffer.now c.read-answer.new.buffer)) c.give_drawn.ensures.given.left c.read-answer.ensures.same c.read-answer.ensures.bytes)

pub returns-clause-drawn : goal.returns-clause-drawn
returns-clause-drawn g c told = drawn_tells c.read-answer.new.self.failed c.args.base c.args.seat.now.me.0 c.give_drawn.new.seat.me.0 c.take-disk.result.trace c.read-answer.new.self.trace c.name-current.result c.args.buffer.now c.read-answer.new.buffer c.read-answer.result c.read-answer.ensures.flag c.read-answer.ensures.same
    c.give_drawn.ensures.given.left c.name-current.ensures c.read-answer.ensures.bytes
    (before_so (λ v. DrawnBy c.args.base c.read-answer.new.self.trace (went_of c.read-answer.new.self.failed) v (view_of c.give_drawn.new.seat.me.0)) c.args.seat.now.me.0 c.take-disk.new.seat.me.0 (Out c.take-disk.result) (ap (λ m. m.0) c.take-disk.ensures.out) c.give_drawn.ensures.given.step told)

pub returns-clause-cause : goal.returns-clause-cause
returns-clause-cause g c = cause_so c.read-answer.new.self.failed c.args.seat.now.me.0.failures c.give_drawn.new.seat.me.0.failures c.read-answer.result c.read-answer.ensures.flag
    (ap (λ (v : SeatView). v.failures) c.give_drawn.ensures.given.back ∙ ap (λ m. risen c.read-answer.new.self.failed m.0.failures) c.take-disk.ensures.out)

pub returns-clause-tells : goal.returns-clause-tells
returns-clause-tells g c = c.give_drawn.ensures.given.tells

pub returns-clause-later : goal.returns-clause-later
returns-clause-later g c = later_so c.args.seat.now.me.0 c.take-disk.new.seat.me.0 c.give_drawn.new.seat.me.0 (Out c.take-disk.result) (ap (λ m. m.0) c.take-disk.ensures.out) c.give_drawn.ensures.given.later
