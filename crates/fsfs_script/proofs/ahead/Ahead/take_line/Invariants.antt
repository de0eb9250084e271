use Rattle.std.proofs.Common.{◌≤◌, ◌-◌, length}
use Rattle.fsfs_script.specs.Places.{place_of}
use Rattle.fsfs_script.proofs.LineLemmas.{IsReading}
use Rattle.fsfs_script.proofs.ahead.Ahead.take_line.Given as goal

-- so much of the line was read
abbrev pub invariant-pieces : goal.invariant-pieces
invariant-pieces g l = record {
  reading : IsReading (place_of (g.S.Source.remaining l.fn.source) l.fn.self) (place_of (g.S.Source.remaining l.source) l.self) l.line.items;
  faults : g.S.Source.faults l.fn.source ≤ g.S.Source.faults l.source;
}

abbrev pub decreases-pieces : goal.decreases-pieces
decreases-pieces g l = 8193 - length l.line.items
