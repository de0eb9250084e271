use Rattle.std.proofs.Common.{◌≡◌, ◌+◌, ℕ, List, Option, Some, Ok, sym, subst, arith}
use Rattle.std.proofs.lemmas.Result.{err_from_is_err_and}
use Rattle.std.specs.Prelude.{◌==◌}
use Rattle.fsfs_script.specs.declared.job_lines.job.Job.{Job}
use Rattle.fsfs_script.specs.Places.{place_of}
use Rattle.fsfs_script.specs.Jobs.{ReadsNext}
use Rattle.fsfs_script.proofs.WholeLemmas.{IsWhole, whole_more, whole_ends, whole_read, whole_breaks, whole_full}
use Rattle.fsfs_script.proofs.whole.read_script.Goals as goal

pub returns-in_err-next_job-clause-read : goal.returns-in_err-next_job-clause-read
returns-in_err-next_job-clause-read g c =
    let p = err_from_is_err_and c.from_residual-in_err-next_job.result c.from_residual-in_err-next_job.ensures.1 in
    rw (p.1, p.2) (whole_breaks (place_of (g.S.Source.remaining c.jobs.source) c.jobs.ahead) (place_of (g.S.Source.remaining c.next_job.new.source) c.next_job.new.self) (g.S.Source.remaining c.args.source.now) c.jobs.room c.jobs.jobs c.in_err-next_job.field-0.0 c.jobs.invariant.reading c.in_err-next_job.ensures.given)

pub returns-in-None-clause-read : goal.returns-in-None-clause-read
returns-in-None-clause-read g c =
    let now = place_of (g.S.Source.remaining c.jobs.source) c.jobs.ahead in
    let new = place_of (g.S.Source.remaining c.next_job.new.source) c.next_job.new.self in
    let given = subst (λ (o : Option Job). ReadsNext (c.jobs.room == 0) now new (Ok o)) c.in-None.is c.in_ok-next_job.ensures.given in
    whole_ends now new (g.S.Source.remaining c.args.source.now) c.jobs.room c.jobs.jobs c.jobs.invariant.reading given

pub returns-in-None-clause-whole : goal.returns-in-None-clause-whole
returns-in-None-clause-whole g c =
    let now = place_of (g.S.Source.remaining c.jobs.source) c.jobs.ahead in
    let new = place_of (g.S.Source.remaining c.next_job.new.source) c.next_job.new.self in
    let given = subst (λ (o : Option Job). ReadsNext (c.jobs.room == 0) now new (Ok o)) c.in-None.is c.in_ok-next_job.ensures.given in
    whole_read now (g.S.Source.remaining c.args.source.now) (g.S.Source.remaining c.next_job.new.source) c.next_job.new.self c.jobs.room c.jobs.jobs c.jobs.invariant.reading given

pub returns-in-None-checked_sub-clause-read : goal.returns-in-None-checked_sub-clause-read
returns-in-None-checked_sub-clause-read g c =
    let now = place_of (g.S.Source.remaining c.jobs.source) c.jobs.ahead in
    let new = place_of (g.S.Source.remaining c.next_job.new.source) c.next_job.new.self in
    let text = g.S.Source.remaining c.args.source.now in
    let none : c.jobs.room ≡ 0 = omega (arith, c.in-None-checked_sub.ensures) in
    let given = subst (λ (o : Option Job). ReadsNext (c.jobs.room == 0) now new (Ok o)) c.in-Some.is c.in_ok-next_job.ensures.given in
    let full = subst (λ (n : ℕ). ReadsNext (n == 0) now new (Ok (Some c.in-Some.job))) none given in
    whole_full now new text c.jobs.jobs c.in-Some.job (subst (λ (n : ℕ). IsWhole text now n c.jobs.jobs) none c.jobs.invariant.reading) full

pub jobs-preserved : goal.jobs-preserved
jobs-preserved g c =
    let now = place_of (g.S.Source.remaining c.jobs.source) c.jobs.ahead in
    let new = place_of (g.S.Source.remaining c.next_job.new.source) c.next_job.new.self in
    let text = g.S.Source.remaining c.args.source.now in
    let less : c.jobs.room ≡ c.in-Some-checked_sub.left + 1 = omega (arith, c.in-Some-checked_sub.ensures) in
    let given = subst (λ (o : Option Job). ReadsNext (c.jobs.room == 0) now new (Ok o)) c.in-Some.is c.in_ok-next_job.ensures.given in
    let more = whole_more now new text c.jobs.room c.in-Some-checked_sub.left c.jobs.jobs c.in-Some.job less c.jobs.invariant.reading given in
    record {
      reading = subst (λ (js : List Job). IsWhole text new c.in-Some-checked_sub.left js) (sym c.in_ok-push-in-Some.ensures) more;
      faults = omega (arith, c.jobs.invariant.faults, c.next_job.ensures.cause.later);
    }
