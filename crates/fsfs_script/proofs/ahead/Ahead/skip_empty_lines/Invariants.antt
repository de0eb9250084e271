use Rattle.std.proofs.Common.{◌≤◌}
use Rattle.fsfs_script.specs.Places.{place_of}
use Rattle.fsfs_script.proofs.TextLemmas.{Skips}
use Rattle.fsfs_script.proofs.ahead.Ahead.skip_empty_lines.Given as goal

-- empty lines were passed, and no others
abbrev pub invariant-loop : goal.invariant-loop
invariant-loop g l = record {
  skips : Skips (place_of (g.S.Source.remaining l.fn.source) l.fn.self) (place_of (g.S.Source.remaining l.source) l.self);
  faults : g.S.Source.faults l.fn.source ≤ g.S.Source.faults l.source;
}
