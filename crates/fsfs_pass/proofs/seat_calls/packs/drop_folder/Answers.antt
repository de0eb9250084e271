use Rattle.std.proofs.Common.{◌≡◌, Some, ap, ◌∙◌}
use Rattle.std.specs.Prelude.{is_err}
use Rattle.fsfs_machine.specs.declared.machine.Section.TheVariants.{Packed}
use Rattle.fsfs_pass.specs.declared.seats.seat_view.Hand.TheVariants.{Out}
use Rattle.fsfs_pass.specs.declared.seats.seat_view.SeatView.{SeatView}
use Rattle.fsfs_pass.specs.Seats.{view_of}
use Rattle.fsfs_pass.specs.SeatCalls.Made.{risen}
use Rattle.fsfs_pass.specs.SeatCalls.Tells.{BesideBy}
use Rattle.fsfs_pass.proofs.Answering.{later_call, later_so, back_so, before_so, may_so, beside_so, cause_so}
use Rattle.fsfs_pass.proofs.seat_calls.packs.drop_folder.Goals as goal

pub give_beside-requires-clause-out : goal.give_beside-requires-clause-out
give_beside-requires-clause-out g c = (
  c.take-disk.result,
  ap (λ m. m.0.hand) c.take-disk.ensures.out,
  later_call c.take-disk.result c.drop_folder-answer.new.self c.drop_folder-answer.result c.drop_folder-answer.ensures.mounted c.drop_folder-answer.ensures.flag c.drop_folder-answer.ensures.cause c.drop_folder-answer.ensures.benches,
  c.drop_folder-answer.ensures.same,
)

pub give_beside-requires-clause-may : goal.give_beside-requires-clause-may
give_beside-requires-clause-may g c = may_so (λ v. v.section ≡ Some Packed) c.args.seat.now.me.0 c.take-disk.new.seat.me.0 (Out c.take-disk.result) (ap (λ m. m.0) c.take-disk.ensures.out) c.requires.may

pub returns-clause-back : goal.returns-clause-back
returns-clause-back g c = back_so c.drop_folder-answer.new.self.failed (is_err c.drop_folder-answer.result) c.args.seat.now.me.0 c.take-disk.new.seat.me.0 c.give_beside.new.seat.me.0 (Out c.take-disk.result) (ap (λ m. m.0) c.take-disk.ensures.out) c.drop_folder-answer.ensures.flag c.give_beside.ensures.given.back

pub returns-clause-beside : goal.returns-clause-beside
returns-clause-beside g c told = beside_so c.drop_folder-answer.new.self.failed (view_of c.args.seat.now.me.0) (view_of c.give_beside.new.seat.me.0) c.drop_folder-answer.result c.drop_folder-answer.ensures.flag
    (before_so (λ v. BesideBy c.drop_folder-answer.new.self.failed v (view_of c.give_beside.new.seat.me.0)) c.args.seat.now.me.0 c.take-disk.new.seat.me.0 (Out c.take-disk.result) (ap (λ m. m.0) c.take-disk.ensures.out) c.give_beside.ensures.given.step told)

pub returns-clause-cause : goal.returns-clause-cause
returns-clause-cause g c = cause_so c.drop_folder-answer.new.self.failed c.args.seat.now.me.0.failures c.give_beside.new.seat.me.0.failures c.drop_folder-answer.result c.drop_folder-answer.ensures.flag
    (ap (λ (v : SeatView). v.failures) c.give_beside.ensures.given.back ∙ ap (λ m. risen c.drop_folder-answer.new.self.failed m.0.failures) c.take-disk.ensures.out)

pub returns-clause-tells : goal.returns-clause-tells
returns-clause-tells g c = c.give_beside.ensures.given.tells

pub returns-clause-later : goal.returns-clause-later
returns-clause-later g c = later_so c.args.seat.now.me.0 c.take-disk.new.seat.me.0 c.give_beside.new.seat.me.0 (Out c.take-disk.result) (ap (λ m. m.0) c.take-disk.ensures.out) c.give_beside.ensures.given.later
