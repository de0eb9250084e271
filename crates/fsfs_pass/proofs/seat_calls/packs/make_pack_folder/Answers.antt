use Rattle.std.proofs.Common.{ℕ, List, ap}
use Rattle.fsfs_disk.specs.Trace.{Adopt}
use Rattle.fsfs_base.specs.declared.places.place.DiskPlace.{DiskPlace}
use Rattle.fsfs_turn.specs.Views.{IsDue}
use Rattle.fsfs_pass.specs.declared.seats.seat_view.Hand.TheVariants.{Out}
use Rattle.fsfs_pass.specs.Seats.{view_of}
use Rattle.fsfs_pass.specs.SeatCalls.Tells.{PackUnmade}
use Rattle.fsfs_pass.proofs.Answering.{later_still, later_call, before_so, may_so}
use Rattle.fsfs_pass.proofs.seat_calls.packs.make_pack_folder.Goals as goal

pub give_pack_unmade-requires-clause-due : goal.give_pack_unmade-requires-clause-due
give_pack_unmade-requires-clause-due g c = may_so (λ v. (place : DiskPlace) × (file : List ℕ) × (bytes : List ℕ) × IsDue v place (Adopt file bytes)) c.args.seat.now.me.0 c.take-disk.new.seat.me.0 (Out c.take-disk.result) (ap (λ m. m.0) c.take-disk.ensures.out) c.requires.due

pub give_back-requires-clause-out : goal.give_back-requires-clause-out
give_back-requires-clause-out g c = (ap (λ m. m.1) c.take-disk.ensures.out, c.take-disk.result, ap (λ m. m.0.hand) c.take-disk.ensures.out, c.make_folder.ensures.same, later_still c.take-disk.result c.make_folder.new.self c.make_folder.ensures.mounted c.make_folder.ensures.cause.later c.make_folder.ensures.benches)

pub give_pack_unmade-requires-clause-out : goal.give_pack_unmade-requires-clause-out
give_pack_unmade-requires-clause-out g c = (
  c.take-disk.result,
  ap (λ m. m.0.hand) c.take-disk.ensures.out,
  later_call c.take-disk.result c.make_folder.new.self c.make_folder.result c.make_folder.ensures.mounted c.make_folder.ensures.flag c.make_folder.ensures.cause c.make_folder.ensures.benches,
  c.make_folder.ensures.same,
)

pub returns-in-Err-clause-unmade : goal.returns-in-Err-clause-unmade
returns-in-Err-clause-unmade g c told = before_so (λ v. PackUnmade v (view_of c.give_pack_unmade.new.seat.me.0)) c.args.seat.now.me.0 c.take-disk.new.seat.me.0 (Out c.take-disk.result) (ap (λ m. m.0) c.take-disk.ensures.out) c.give_pack_unmade.ensures.given.step told
