use Rattle.std.proofs.Common.{◌≤◌, ◌-◌, length}
use Rattle.fsfs_script.specs.Places.{place_of}
use Rattle.fsfs_script.proofs.TextLemmas.{IsTaking}
use Rattle.fsfs_script.proofs.ahead.Ahead.take_text.Given as goal

-- so much of the text was read
abbrev pub invariant-pieces : goal.invariant-pieces
invariant-pieces g l = record {
  taking : IsTaking (place_of (g.S.Source.remaining l.fn.source) l.fn.self) (place_of (g.S.Source.remaining l.source) l.self) l.count l.text.items;
  faults : g.S.Source.faults l.fn.source ≤ g.S.Source.faults l.source;
}

abbrev pub decreases-pieces : goal.decreases-pieces
decreases-pieces g l = l.count - length l.text.items
