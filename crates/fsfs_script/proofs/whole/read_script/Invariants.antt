use Rattle.std.proofs.Common.{◌≤◌}
use Rattle.fsfs_script.specs.Places.{place_of}
use Rattle.fsfs_script.proofs.WholeLemmas.{IsWhole}
use Rattle.fsfs_script.proofs.whole.read_script.Given as goal

-- the jobs so far
abbrev pub invariant-jobs : goal.invariant-jobs
invariant-jobs g l = record {
  reading : IsWhole (g.S.Source.remaining l.fn.source) (place_of (g.S.Source.remaining l.source) l.ahead) l.room l.jobs;
  faults : g.S.Source.faults l.fn.source ≤ g.S.Source.faults l.source;
}

abbrev pub decreases-jobs : goal.decreases-jobs
decreases-jobs g l = l.room
