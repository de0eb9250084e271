use Rattle.std.proofs.Common.{Bool, Ok, subst}
use Rattle.std.proofs.lemmas.Result.{err_from_is_err_and}
use Rattle.fsfs_script.specs.Places.{place_of}
use Rattle.fsfs_script.specs.Reading.{Reads, skipped_at}
use Rattle.fsfs_script.proofs.JobLemmas.{next_none, next_some, next_fails, next_stops}
use Rattle.fsfs_script.proofs.ahead.Ahead.next_job.Goals as goal

pub returns-in_err-job-in-Ok-true-clause-given : goal.returns-in_err-job-in-Ok-true-clause-given
returns-in_err-job-in-Ok-true-clause-given g c =
    let p = err_from_is_err_and c.from_residual.result c.from_residual.ensures.1 in
    let skip = subst (λ (t : Bool). Reads (λ (m : Bool). m) skipped_at (place_of (g.S.Source.remaining c.args.source.now) c.args.self.now) (place_of (g.S.Source.remaining c.skip_empty_lines.new.source) c.skip_empty_lines.new.self) (Ok t)) c.in-Ok-true.field-0-test c.in-Ok-true.ensures.given in
    rw (p.1, p.2) (next_fails (place_of (g.S.Source.remaining c.args.source.now) c.args.self.now) (place_of (g.S.Source.remaining c.skip_empty_lines.new.source) c.skip_empty_lines.new.self) (place_of (g.S.Source.remaining c.job.new.source) c.job.new.self) c.args.is_full c.in_err-job-in-Ok-true.field-0.0 skip c.in_err-job-in-Ok-true.ensures.given)

pub returns-in-Err-clause-given : goal.returns-in-Err-clause-given
returns-in-Err-clause-given g c = rw c.stopped_at.ensures (next_stops (place_of (g.S.Source.remaining c.args.source.now) c.args.self.now) (place_of (g.S.Source.remaining c.skip_empty_lines.new.source) c.skip_empty_lines.new.self) (place_of (g.S.Source.remaining c.skip_empty_lines.new.source) c.skip_empty_lines.new.self) c.args.is_full c.line-line.result c.in-Err.stop c.in-Err.ensures.given)

pub returns-in_ok-job-in-Ok-true-clause-given : goal.returns-in_ok-job-in-Ok-true-clause-given
returns-in_ok-job-in-Ok-true-clause-given g c =
    let skip = subst (λ (t : Bool). Reads (λ (m : Bool). m) skipped_at (place_of (g.S.Source.remaining c.args.source.now) c.args.self.now) (place_of (g.S.Source.remaining c.skip_empty_lines.new.source) c.skip_empty_lines.new.self) (Ok t)) c.in-Ok-true.field-0-test c.in-Ok-true.ensures.given in
    next_some (place_of (g.S.Source.remaining c.args.source.now) c.args.self.now) (place_of (g.S.Source.remaining c.skip_empty_lines.new.source) c.skip_empty_lines.new.self) (place_of (g.S.Source.remaining c.job.new.source) c.job.new.self) c.args.is_full c.in_ok-job-in-Ok-true.job skip c.in_ok-job-in-Ok-true.ensures.given

pub returns-in-Ok-false-clause-given : goal.returns-in-Ok-false-clause-given
returns-in-Ok-false-clause-given g c =
    let skip = subst (λ (t : Bool). Reads (λ (m : Bool). m) skipped_at (place_of (g.S.Source.remaining c.args.source.now) c.args.self.now) (place_of (g.S.Source.remaining c.skip_empty_lines.new.source) c.skip_empty_lines.new.self) (Ok t)) c.in-Ok-false.field-0-test c.in-Ok-false.ensures.given in
    next_none (place_of (g.S.Source.remaining c.args.source.now) c.args.self.now) (place_of (g.S.Source.remaining c.skip_empty_lines.new.source) c.skip_empty_lines.new.self) c.args.is_full skip
