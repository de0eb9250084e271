use Rattle.std.proofs.Common.{ap, ◌∙◌}
use Rattle.fsfs_pass.proofs.Turning.{sits_so}
use Rattle.fsfs_pass.proofs.Partings.{join_layout, join_sits, join_later, join_later_too, join_low, join_knows}
use Rattle.fsfs_pass.proofs.pass_turns.PassTurns.join.Goals as goal

pub join-requires-clause-sits : goal.join-requires-clause-sits
join-requires-clause-sits g c = (sits_so c.args.self.now.seat.me.0 c.args.self.now.sitting, sits_so c.args.other.seat.me.0 c.args.other.sitting)

pub join-requires-clause-table : goal.join-requires-clause-table
join-requires-clause-table g c = (c.args.self.now.sits.0, c.requires.table ∙ c.args.self.now.sits.0, c.args.self.now.sits.1)

pub join-requires-clause-rests : goal.join-requires-clause-rests
join-requires-clause-rests g c = c.args.other.sits.3

pub invariant_of-self : goal.invariant_of-self
invariant_of-self g c =
    let same = c.join.ensures.same in
    let is = ap (λ m. m.0) c.join.ensures.joined in
    record {
      sits = (same.0 ∙ c.args.self.now.sits.0, c.args.self.now.sits.1, c.args.self.now.sits.2, ap (λ m. m.1) c.join.ensures.joined ∙ c.args.self.now.sits.3);
      sitting = join_sits c.args.self.now.seat.me.0 c.args.other.seat.me.0 c.join.new.seat.me.0 is;
      layout_is = join_layout c.args.self.now.seat.me.0 c.args.other.seat.me.0 c.join.new.seat.me.0 is ∙ c.args.self.now.layout_is;
      met_told = c.join.ensures.tells.0;
      last_low = join_low c.args.self.now.seat.me.0 c.args.other.seat.me.0 c.join.new.seat.me.0 is c.args.self.now.last c.args.self.now.last_low (λ told. (c.join.ensures.later told).0);
      short = c.join.ensures.tells.2;
    }

pub returns-clause-joined : goal.returns-clause-joined
returns-clause-joined g c = ap (λ m. m.0) c.join.ensures.joined

pub returns-clause-known : goal.returns-clause-known
returns-clause-known g c = λ v u known its.
    let seen = c.join.ensures.seen known.told in
    join_knows c.args.self.now.seat.me.0 c.args.other.seat.me.0 c.join.new.seat.me.0 (ap (λ m. m.0) c.join.ensures.joined) (g.D.Disk.trace c.args.self.now.first.value) c.args.self.now.last v u known.disk known.told known.is its.is seen.0 seen.1 c.join.ensures.tells

pub returns-clause-later : goal.returns-clause-later
returns-clause-later g c =
    join_later c.args.self.now.seat.me.0 c.args.other.seat.me.0 c.join.new.seat.me.0 (ap (λ m. m.0) c.join.ensures.joined) c.args.self.now.last c.args.self.now.met_told (λ told. (c.join.ensures.later told).0)

pub returns-clause-later_too : goal.returns-clause-later_too
returns-clause-later_too g c = λ v u known its.
    join_later_too c.args.self.now.seat.me.0 c.args.other.seat.me.0 c.join.new.seat.me.0 (ap (λ m. m.0) c.join.ensures.joined) c.args.other.last c.args.self.now.last known.told its.told (c.join.ensures.later known.told).1

pub returns-clause-duty : goal.returns-clause-duty
returns-clause-duty g c = ap (λ m. m.0.told) c.join.ensures.joined

pub returns-clause-faults : goal.returns-clause-faults
returns-clause-faults g c = ap (λ m. m.0.failures) c.join.ensures.joined

pub returns-clause-benches : goal.returns-clause-benches
returns-clause-benches g c = ap (λ m. m.0.bench_failures) c.join.ensures.joined
