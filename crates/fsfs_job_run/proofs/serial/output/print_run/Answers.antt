use Rattle.std.proofs.Common.{refl}
use Rattle.std.specs.Prelude.{Err}
use Rattle.fsfs_base.proofs.OutputLemmas.{printed_more, printed_less, passed_on}
use Rattle.fsfs_jobs.specs.Lines.{job_lines, ending_text, run_text}
use Rattle.fsfs_job_run.proofs.serial.output.print_run.Goals as goal

pub returns-in_err-print_answers : goal.returns-in_err-print_answers
returns-in_err-print_answers g c =
    let old = g.S.Sink.written c.args.sink.now in
    let new = g.S.Sink.written c.print_answers.new.sink in
    let before = g.S.Sink.faults c.args.sink.now in
    let now = g.S.Sink.faults c.print_answers.new.sink in
    let e = c.in_err-print_answers.field-0.0 in
    let less = printed_less old new (job_lines 1 c.args.answers.now) (ending_text c.args.ending c.args.youngest) before now (Err e) refl c.in_err-print_answers.ensures.printed in
    record { printed = passed_on old new (run_text c.args.answers.now c.args.ending c.args.youngest) before now (Err e) c.from_residual.result refl c.from_residual.ensures.0 less }

pub returns : goal.returns
returns g c =
    let old = g.S.Sink.written c.args.sink.now in
    let mid = g.S.Sink.written c.print_answers.new.sink in
    let new = g.S.Sink.written c.print_ending.new.sink in
    let before = g.S.Sink.faults c.args.sink.now in
    let then_ = g.S.Sink.faults c.print_answers.new.sink in
    let now = g.S.Sink.faults c.print_ending.new.sink in
    record { printed = printed_more old mid new (job_lines 1 c.args.answers.now) (ending_text c.args.ending c.args.youngest) before then_ now c.print_ending.result c.in_ok-print_answers.ensures.printed.whole c.in_ok-print_answers.ensures.printed.later c.print_ending.ensures.printed }
