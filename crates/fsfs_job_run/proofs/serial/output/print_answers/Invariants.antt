use Rattle.std.proofs.Common.{◌≡◌, ◌≤◌, take}
use Rattle.fsfs_base.specs.Streams.{Adds}
use Rattle.fsfs_jobs.specs.Lines.{job_lines}
use Rattle.fsfs_job_run.proofs.serial.output.print_answers.Given as goal

-- the lines so far were written
abbrev pub invariant-loop-answer : goal.invariant-loop-answer
invariant-loop-answer g l = record {
  numbered : l.number ≡ l.answer-index;
  written : Adds (g.S.Sink.written l.fn.sink) (g.S.Sink.written l.sink) (job_lines 1 (take l.answer-index l.answers));
  later : g.S.Sink.faults l.fn.sink ≤ g.S.Sink.faults l.sink;
}
