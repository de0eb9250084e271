use Rattle.std.proofs.Common.{◌≤◌, ℕ, ⊎_elim, inl, inr, sym, ap, subst, ◌∙◌, arith}
use Rattle.fsfs_base.specs.Failures.{Rose}
use Rattle.fsfs_tree.specs.Dated.{last_of}
use Rattle.fsfs_machine.specs.Machine.{revisions}
use Rattle.fsfs_machine.specs.declared.machine.Recorded.{Recorded}
use Rattle.std.specs.Prelude.{List, option_map}
use Rattle.fsfs_disk.specs.Trace.{labels_now}
use Rattle.fsfs_job_run.proofs.ListedLemmas.{none_begun}
use Rattle.fsfs_turn.specs.Alone.{KnowsAlone}
use Rattle.fsfs_turn.specs.Telling.{OwnedState}
use Rattle.fsfs_jobs.specs.Serial.{base_of}
use Rattle.fsfs_job_run.proofs.Based.{no_base, no_base_outside, no_base_counted}
use Rattle.fsfs_job_run.proofs.Causes.{fails_on, request_fails}
use Rattle.fsfs_job_run.proofs.BenchCauses.{request_told}
use Rattle.fsfs_job_run.proofs.Composed.{commits_behind}
use Rattle.fsfs_job_run.proofs.Full.{full_as, request_unfull}
use Rattle.fsfs_machine.specs.Kept.{IsIn}
use Rattle.fsfs_job_run.proofs.Listing.{given_on, lists_behind}
use Rattle.fsfs_job_run.proofs.SerialJobLemmas.{among}
use Rattle.fsfs_job_run.proofs.commit_job.commit_job.Goals as goal

pub returns-in-Ok-clause-does : goal.returns-in-Ok-clause-does
returns-in-Ok-clause-does g c = λ v known none.
    let after = c.begin_and_commit.result.0.turns in
    let l = c.in-Ok.ensures.looked v known none in
    let b = c.in-Ok.ensures.base v known none in
    let seen = ap (λ (h : List Recorded). last_of (revisions h)) (sym l.2.stays.seen) in
    commits_behind (KnowsAlone after.layout after.floor after.young after.stuck (g.D.Disk.trace after.disk)) (Rose (g.D.Disk.faults c.base_of.new.repo.turns.disk) (g.D.Disk.faults after.disk)) (Rose (g.D.Disk.faults c.args.repo.turns.disk) (g.D.Disk.faults after.disk)) c.args.micros c.args.job.now c.begin_and_commit.result.1 v l.0
    (λ r. omega (arith, r, c.in-Ok.ensures.faults)) l.2.stays l.2.doubtless l.2.left
    (c.begin_and_commit.ensures.does l.0 l.1 l.2.stays.outside (l.2.least ∙ seen) (b.0 ∙ ap (λ (n : ℕ). base_of c.args.job.now.base n) seen) (subst (λ (n : ℕ). c.in-Ok.base ≤ n) seen b.1))

pub returns-in-Err-clause-does : goal.returns-in-Err-clause-does
returns-in-Err-clause-does g c = λ v known none.
    let job = c.args.job.now in
    let l = c.in-Err.ensures.looked v known none in
    let lacks = c.in-Err.ensures.lacks v known none in
    ((l.0, l.1, no_base c.args.micros job c.in-Err.fault v l.0 l.2 lacks, no_base_outside _ job.base _ job.line c.in-Err.fault l.0 lacks), no_base_counted job job.base _ job.line c.in-Err.fault _ lacks)

pub returns-in-Ok-clause-cause : goal.returns-in-Ok-clause-cause
returns-in-Ok-clause-cause g c =
    let start = g.D.Disk.faults c.args.repo.turns.disk in
    let mid = g.D.Disk.faults c.base_of.new.repo.turns.disk in
    let now = g.D.Disk.faults c.begin_and_commit.result.0.turns.disk in
    fails_on (Rose mid now) (Rose start now) c.begin_and_commit.result.1 (λ r. omega (arith, r, c.in-Ok.ensures.faults)) c.begin_and_commit.ensures.cause

pub returns-in-Err-clause-cause : goal.returns-in-Err-clause-cause
returns-in-Err-clause-cause g c = request_fails _ c.args.job.now.line c.in-Err.fault c.in-Err.ensures.asked

pub returns-in-Ok-clause-listed : goal.returns-in-Ok-clause-listed
returns-in-Ok-clause-listed g c = λ least has.
    let start = g.D.Disk.faults c.args.repo.turns.disk in
    let mid = g.D.Disk.faults c.base_of.new.repo.turns.disk in
    let now = g.D.Disk.faults c.begin_and_commit.result.0.turns.disk in
    let s = c.args.repo.turns in
    let m = c.base_of.new.repo.turns in
    lists_behind (Rose mid now) (Rose start now) least 1 _ _ _ (λ r. omega (arith, r, c.in-Ok.ensures.faults)) (ap (λ (s : OwnedState). option_map labels_now s.trace) c.in-Ok.ensures.same)
    (c.begin_and_commit.ensures.listed least (given_on (KnowsAlone s.layout s.floor s.young s.stuck (g.D.Disk.trace s.disk)) (KnowsAlone m.layout m.floor m.young m.stuck (g.D.Disk.trace m.disk)) least (λ v known none. let l = c.in-Ok.ensures.looked v known none in (l.0, l.1, l.2.stays.outside, λ k there. subst (λ (xs : List ℕ). IsIn k xs) (sym l.2.stays.given) (among k l.2.stays.more v.given there))) has))

pub returns-in-Err-clause-listed : goal.returns-in-Err-clause-listed
returns-in-Err-clause-listed g c = λ least has. inl (none_begun least 1 _ _ (ap (λ (s : OwnedState). option_map labels_now s.trace) c.in-Err.ensures.same))

pub returns-in-Ok-clause-benches : goal.returns-in-Ok-clause-benches
returns-in-Ok-clause-benches g c = let same = ap (λ (s : OwnedState). s.bench_faults) c.in-Ok.ensures.same in omega (arith, same, c.begin_and_commit.ensures.benches)

pub returns-in-Err-clause-benches : goal.returns-in-Err-clause-benches
returns-in-Err-clause-benches g c =
    let same = ap (λ (s : OwnedState). s.bench_faults) c.in-Err.ensures.same in
    let told = request_told c.args.job.now.line c.in-Err.fault c.in-Err.ensures.asked in
    omega (arith, same, told)

pub returns-in-Ok-clause-full : goal.returns-in-Ok-clause-full
returns-in-Ok-clause-full g c = λ v known none told.
    let l = c.in-Ok.ensures.looked v known none in
    full_as _ _ (sym c.in-Ok.ensures.same) (c.begin_and_commit.ensures.full l.0 l.1 l.2.stays.outside told)

pub returns-in-Err-clause-full : goal.returns-in-Err-clause-full
returns-in-Err-clause-full g c = λ v known none told. let h = request_unfull c.args.job.now.line c.in-Err.fault c.in-Err.ensures.asked in absurd cc

pub returns-in-Ok-clause-stays : goal.returns-in-Ok-clause-stays
returns-in-Ok-clause-stays g c = λ last. c.begin_and_commit.ensures.stays (full_as _ _ c.in-Ok.ensures.same last) ∙ c.in-Ok.ensures.same

pub returns-in-Err-clause-stays : goal.returns-in-Err-clause-stays
returns-in-Err-clause-stays g c = λ last. c.in-Err.ensures.same
