use Rattle.std.proofs.Common.{refl, ap, ◌∙◌, arith}
use Rattle.fsfs_pass.proofs.Turning.{sits_so, tells_later}
use Rattle.fsfs_pass.proofs.Partings.{halved_layout, halved_sits, halved_met, halved_low, halved_short, halved_knows, halved_tells, split_told, split_layout, split_sits, split_failures, split_bench_failures, split_low, split_knows}
use Rattle.fsfs_pass.proofs.pass_turns.PassTurns.split.Goals as goal

pub split-seat-requires-clause-sits : goal.split-seat-requires-clause-sits
split-seat-requires-clause-sits g c = sits_so c.args.self.now.seat.me.0 c.args.self.now.sitting

pub invariant_of-self : goal.invariant_of-self
invariant_of-self g c =
    let same = c.split-seat.ensures.same in
    let is = ap (λ m. m.0) same.2 in
    record {
      sits = (same.0 ∙ c.args.self.now.sits.0, c.args.self.now.sits.1, c.args.self.now.sits.2, ap (λ m. m.1) same.2 ∙ c.args.self.now.sits.3);
      sitting = halved_sits c.args.self.now.seat.me.0 c.split-seat.new.seat.me.0 is c.args.self.now.sitting;
      layout_is = halved_layout c.args.self.now.seat.me.0 c.split-seat.new.seat.me.0 is ∙ c.args.self.now.layout_is;
      met_told = halved_met c.args.self.now.seat.me.0 c.split-seat.new.seat.me.0 is c.args.self.now.met_told;
      last_low = halved_low c.args.self.now.seat.me.0 c.split-seat.new.seat.me.0 is c.args.self.now.last c.args.self.now.last_low;
      short = halved_short c.args.self.now.seat.me.0 c.split-seat.new.seat.me.0 is c.args.self.now.short;
    }

pub invariant_of-result : goal.invariant_of-result
invariant_of-result g c =
    let s = c.split-seat.ensures.split in
    let fresh = c.split-seat.ensures.new in
    record {
      sits = (fresh.0 ∙ c.args.self.now.sits.0, c.args.self.now.sits.1, c.args.self.now.sits.2, fresh.1);
      sitting = split_sits s.0 c.args.self.now.seat.me.0 c.split-seat.result.me.0 s.1;
      layout_is = split_layout s.0 c.args.self.now.seat.me.0 c.split-seat.result.me.0 s.1 ∙ c.args.self.now.layout_is;
      met_told = c.split-seat.ensures.tells.0;
      last_low = split_low s.0 c.args.self.now.seat.me.0 c.split-seat.result.me.0 s.1 c.args.self.now.last c.args.self.now.last_low;
      short = c.split-seat.ensures.tells.2;
    }

pub returns-clause-halved : goal.returns-clause-halved
returns-clause-halved g c = ap (λ m. m.0) c.split-seat.ensures.same.2

pub returns-clause-split : goal.returns-clause-split
returns-clause-split g c = let s = c.split-seat.ensures.split in (s.0, s.1)

pub returns-clause-known : goal.returns-clause-known
returns-clause-known g c = λ v known.
    let s = c.split-seat.ensures.split in
    split_knows s.0 c.args.self.now.seat.me.0 c.split-seat.result.me.0 s.1 (g.D.Disk.trace c.args.self.now.first.value) (g.D.Disk.trace c.said_again-first.result.value) c.args.self.now.last v
    (ap (λ d. g.D.Disk.trace d) c.said_again-first.ensures) known s.2 c.split-seat.ensures.tells

pub returns-clause-keeps : goal.returns-clause-keeps
returns-clause-keeps g c = λ v known.
    halved_knows c.args.self.now.seat.me.0 c.split-seat.new.seat.me.0 (ap (λ m. m.0) c.split-seat.ensures.same.2) (g.D.Disk.trace c.args.self.now.first.value) c.args.self.now.last v known

pub returns-clause-later : goal.returns-clause-later
returns-clause-later g c =
    let s = c.split-seat.ensures.split in
    tells_later c.args.self.now.last c.args.self.now.last c.args.self.now.seat.me.0 c.split-seat.result.me.0 c.args.self.now.met_told (split_told s.0 c.args.self.now.seat.me.0 c.split-seat.result.me.0 s.1) (omega arith) c.split-seat.ensures.later

pub returns-clause-same : goal.returns-clause-same
returns-clause-same g c = halved_tells c.args.self.now.seat.me.0 c.split-seat.new.seat.me.0 (ap (λ m. m.0) c.split-seat.ensures.same.2) c.args.self.now.last

pub returns-clause-duty : goal.returns-clause-duty
returns-clause-duty g c =
    let s = c.split-seat.ensures.split in
    (ap (λ m. m.0.told) c.split-seat.ensures.same.2, split_told s.0 c.args.self.now.seat.me.0 c.split-seat.result.me.0 s.1)

pub returns-clause-faults : goal.returns-clause-faults
returns-clause-faults g c =
    let s = c.split-seat.ensures.split in
    (ap (λ m. m.0.failures) c.split-seat.ensures.same.2, split_failures s.0 c.args.self.now.seat.me.0 c.split-seat.result.me.0 s.1)

pub returns-clause-table : goal.returns-clause-table
returns-clause-table g c = (c.split-seat.ensures.same.0, c.split-seat.ensures.new.0)

pub returns-clause-mounted : goal.returns-clause-mounted
returns-clause-mounted g c = (refl, ap (λ d. g.D.Disk.mount_path d) c.said_again-first.ensures)

pub returns-clause-benches : goal.returns-clause-benches
returns-clause-benches g c =
    let s = c.split-seat.ensures.split in
    (ap (λ m. m.0.bench_failures) c.split-seat.ensures.same.2, split_bench_failures s.0 c.args.self.now.seat.me.0 c.split-seat.result.me.0 s.1)
