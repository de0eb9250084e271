use Rattle.std.proofs.Common.{◌≡◌, ◌≤◌, ◌-◌, length}
use Rattle.fsfs_txn_files.proofs.Steps.{IsTaking}
use Rattle.fsfs_txn_files.proofs.proto_rev.appending.append_bytes.Given as goal

-- the first bytes of the text were taken and added
abbrev pub invariant-pieces : goal.invariant-pieces
invariant-pieces g l = record {
  taking : IsTaking (g.D.Bench.contents l.fn.bench) (g.D.Bench.contents l.bench) (g.I.Source.remaining l.fn.source) (g.I.Source.remaining l.source) l.file l.taken;
  room : length l.piece ≡ 65536;
  source : g.I.Source.faults l.fn.source ≤ g.I.Source.faults l.source;
  bench : g.D.Bench.faults l.fn.bench ≤ g.D.Bench.faults l.bench;
}

abbrev pub decreases-pieces : goal.decreases-pieces
decreases-pieces g l = 1073741825 - l.taken.length
