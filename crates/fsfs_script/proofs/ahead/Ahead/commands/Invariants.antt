use Rattle.std.proofs.Common.{◌≤◌}
use Rattle.fsfs_script.specs.Places.{place_of}
use Rattle.fsfs_script.proofs.JobLemmas.{IsFilling}
use Rattle.fsfs_script.proofs.ahead.Ahead.commands.Given as goal

-- the commands so far
abbrev pub invariant-loop : goal.invariant-loop
invariant-loop g l = record {
  filling : IsFilling (place_of (g.S.Source.remaining l.fn.source) l.fn.self) (place_of (g.S.Source.remaining l.source) l.self) l.fn.job l.stage l.job;
  faults : g.S.Source.faults l.fn.source ≤ g.S.Source.faults l.source;
}
