use Rattle.std.proofs.Common.{◌^◌, ◌-◌, rules, refl, ap}
use Rattle.fsfs_machine.specs.declared.machine.Went.TheVariants.{Fine, Before}
use Rattle.fsfs_pass.specs.declared.seats.seat_view.Hand.TheVariants.{Out}
use Rattle.fsfs_pass.proofs.Answering.{later_still, later_done, later_failed, none_more}
use Rattle.fsfs_pass.proofs.MetLabels.{listed_so}
use Rattle.fsfs_pass.proofs.seat_calls.labels.list.Goals as goal

pub returns-in-Ok-clause-listed : goal.returns-in-Ok-clause-listed
returns-in-Ok-clause-listed g c = listed_so c.list.new.self.failed c.list.new.self.trace Fine c.args.seat.now.me.0 c.take-disk.new.seat.me.0 c.give_listed.new.seat.me.0 (Out c.take-disk.result) (ap (λ m. m.0) c.take-disk.ensures.out) c.in-Ok.ensures.flag refl c.give_listed.ensures.given

pub returns-in-Err-Failed-clause-unlisted : goal.returns-in-Err-Failed-clause-unlisted
returns-in-Err-Failed-clause-unlisted g c = λ told failed. listed_so c.list.new.self.failed c.list.new.self.trace Before c.args.seat.now.me.0 c.take-disk.new.seat.me.0 c.give_listed-in-Err-Failed.new.seat.me.0 (Out c.take-disk.result) (ap (λ m. m.0) c.take-disk.ensures.out) c.in-Err-Failed.ensures.flag refl c.give_listed-in-Err-Failed.ensures.given told

pub give_listed-requires-clause-out : goal.give_listed-requires-clause-out
give_listed-requires-clause-out g c = (c.take-disk.result, ap (λ m. m.0.hand) c.take-disk.ensures.out, later_done 0 c.take-disk.result c.list.new.self c.in-Ok.ensures.mounted c.in-Ok.ensures.flag c.in-Ok.ensures.later (none_more c.take-disk.result.bench_faults c.list.new.self.bench_faults (2 ^ 64 - 1) c.in-Ok.ensures.benches), c.in-Ok.ensures.same)

pub give_listed-requires-in-Err-Failed-clause-out : goal.give_listed-requires-in-Err-Failed-clause-out
give_listed-requires-in-Err-Failed-clause-out g c = (
  c.take-disk.result,
  ap (λ m. m.0.hand) c.take-disk.ensures.out,
  later_failed 0 c.take-disk.result c.list.new.self c.in-Err-Failed.ensures.mounted c.in-Err-Failed.ensures.flag c.in-Err-Failed.ensures.later (c.in-Err-Failed.ensures.rose (search rules)) (none_more c.take-disk.result.bench_faults c.list.new.self.bench_faults (2 ^ 64 - 1) c.in-Err-Failed.ensures.benches),
  c.in-Err-Failed.ensures.same,
)

pub give_back-requires-clause-out : goal.give_back-requires-clause-out
give_back-requires-clause-out g c = (ap (λ m. m.1) c.take-disk.ensures.out, c.take-disk.result, ap (λ m. m.0.hand) c.take-disk.ensures.out, c.in-Err-Memory.ensures.same, later_still c.take-disk.result c.list.new.self c.in-Err-Memory.ensures.mounted c.in-Err-Memory.ensures.later c.in-Err-Memory.ensures.benches)
