use Rattle.std.proofs.Common.{ℕ, ◌∙◌, sym, ap, max, arith}
use Rattle.fsfs_jobs.specs.Lines.{status_after}
use Rattle.std.specs.Prelude.{slice_index_or}
use Rattle.fsfs_job_run.proofs.LineLemmas.{status_more}
use Rattle.fsfs_job_run.proofs.serial.statuses.greatest_status.Goals as goal

pub loop-answer-preserved : goal.loop-answer-preserved
loop-answer-preserved c =
    let answers = c.args.answers.now in
    let i = c.loop-answer.answer-index in
    let answer = c.answer-item.result in
    record {
      so_far = c.greater-greatest.ensures
          ∙ ap (λ (n : ℕ). max n c.loop-answer.greatest) (c.status.ensures ∙ ap status_after c.answer-item.is)
          ∙ ap (λ (n : ℕ). max (status_after (slice_index_or answers i answer)) n) c.loop-answer.invariant.so_far
          ∙ sym (status_more answers i answer (omega arith));
    }
