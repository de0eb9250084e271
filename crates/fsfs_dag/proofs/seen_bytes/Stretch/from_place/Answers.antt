use Rattle.std.proofs.Common.{◌≤◌, ◌<◌, ◌-◌, ◌≡◌, length, take, arith, rules}
use Rattle.fsfs_dag.proofs.SeenLemmas.{seen_from_place}
use Rattle.fsfs_dag.proofs.seen_bytes.Stretch.from_place.Goals as goal

pub returns : goal.returns
returns c = λ look h.
    let is : c.in_ok-kept.kept.now ≡ take c.args.self.now.count c.args.self.now.bytes = search rules in
    let same : c.args.at.now.rev ≡ c.args.self.now.at.rev = first_of (search rules, omega arith) in
    let after : c.args.self.now.at.offset ≤ c.args.at.now.offset = first_of (search rules, omega arith) in
    let within : c.args.at.now.offset - c.args.self.now.at.offset < length c.in_ok-kept.kept.now = search rules in
    seen_from_place look c.args.self.now c.args.at.now c.in_ok-kept.kept.now is same after within h
