use Rattle.std.proofs.Common.{◌≡◌, ◌∙◌, ◌++◌, ◌+◌, List, ℕ, refl, sym, ap, subst, take, drop, length, arith}
use Rattle.std.specs.Prelude.{Err, slice_index_or}
use Rattle.fsfs_base.specs.Streams.{Adds}
use Rattle.fsfs_base.specs.Output.{Prints}
use Rattle.fsfs_base.proofs.StreamLemmas.{adds_then}
use Rattle.fsfs_base.proofs.OutputLemmas.{printed_more, printed_less, passed_on}
use Rattle.fsfs_jobs.specs.Lines.{job_line, job_lines}
use Rattle.fsfs_jobs.specs.declared.answer.JobAnswer.{JobAnswer}
use Rattle.fsfs_job_run.proofs.LineLemmas.{lines_more, lines_around}
use Rattle.fsfs_job_run.proofs.serial.output.print_answers.Goals as goal

pub returns-in_err-print_job_line : goal.returns-in_err-print_job_line
returns-in_err-print_job_line g c =
    let answers = c.args.answers.now in
    let i = c.loop-answer.answer-index in
    let answer = c.answer-item.result in
    let old = g.S.Sink.written c.args.sink.now in
    let mid = g.S.Sink.written c.loop-answer.sink in
    let new = g.S.Sink.written c.print_job_line.new.sink in
    let before = g.S.Sink.faults c.args.sink.now in
    let then_ = g.S.Sink.faults c.loop-answer.sink in
    let now = g.S.Sink.faults c.print_job_line.new.sink in
    let e = c.in_err-print_job_line.field-0.0 in
    let front = job_lines 1 (take i answers) in
    let line = job_line (i + 1) (slice_index_or answers i answer) in
    let behind = job_lines (1 + length (take (i + 1) answers)) (drop (i + 1) answers) in
    let number : c.loop-answer.number + 1 ≡ i + 1 = ap (λ (n : ℕ). n + 1) c.loop-answer.invariant.numbered in
    let piece_by = subst (λ (n : ℕ). Prints mid new (job_line n answer) then_ now (Err e)) number c.in_err-print_job_line.ensures.printed in
    let piece = subst (λ (a : JobAnswer). Prints mid new (job_line (i + 1) a) then_ now (Err e)) c.answer-item.is piece_by in
    let more = printed_more old mid new front line before then_ now (Err e) c.loop-answer.invariant.written c.loop-answer.invariant.later piece in
    let less = printed_less old new (front ++ line) behind before now (Err e) refl more in
    let whole = subst (λ (t : List ℕ). Prints old new t before now (Err e)) (lines_around answers i answer (omega arith)) less in
    record { printed = passed_on old new (job_lines 1 answers) before now (Err e) c.from_residual.result refl c.from_residual.ensures.0 whole }

pub loop-answer-preserved : goal.loop-answer-preserved
loop-answer-preserved g c =
    let answers = c.args.answers.now in
    let i = c.loop-answer.answer-index in
    let answer = c.answer-item.result in
    let old = g.S.Sink.written c.args.sink.now in
    let mid = g.S.Sink.written c.loop-answer.sink in
    let new = g.S.Sink.written c.print_job_line.new.sink in
    let front = job_lines 1 (take i answers) in
    let number : c.loop-answer.number + 1 ≡ i + 1 = ap (λ (n : ℕ). n + 1) c.loop-answer.invariant.numbered in
    let both = adds_then old mid new front (job_line (c.loop-answer.number + 1) answer) c.loop-answer.invariant.written c.in_ok-print_job_line.ensures.printed.whole in
    let text = ap (λ (n : ℕ). front ++ job_line n answer) number ∙ ap (λ (a : JobAnswer). front ++ job_line (i + 1) a) c.answer-item.is ∙ sym (lines_more answers i answer (omega arith)) in
    record {
      numbered = number;
      written = subst (λ (t : List ℕ). Adds old new t) text both;
      later = omega (arith, c.loop-answer.invariant.later, c.in_ok-print_job_line.ensures.printed.later);
    }
