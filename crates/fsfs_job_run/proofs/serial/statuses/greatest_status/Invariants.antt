use Rattle.std.proofs.Common.{◌≡◌, take}
use Rattle.fsfs_jobs.specs.Lines.{greatest_status}
use Rattle.fsfs_job_run.proofs.serial.statuses.greatest_status.Given as goal

-- the greatest so far
abbrev pub invariant-loop-answer : goal.invariant-loop-answer
invariant-loop-answer l = record {
  so_far : l.greatest ≡ greatest_status (take l.answer-index l.answers);
}
