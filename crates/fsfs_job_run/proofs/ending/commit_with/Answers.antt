use Rattle.std.proofs.Common.{sym, ap, subst, ◌∙◌, arith}
use Rattle.fsfs_base.specs.Failures.{Rose}
use Rattle.fsfs_turn.specs.Alone.{KnowsAlone}
use Rattle.fsfs_turn.specs.Mountings.{RoseBy}
use Rattle.fsfs_repo.specs.Txns.Commits.{IfFailed, bench_faults_told}
use Rattle.fsfs_jobs.specs.declared.answer.JobAnswer.{JobAnswer}
use Rattle.fsfs_job_run.specs.TextReads.{IfAnswerFails}
use Rattle.fsfs_job_run.specs.Running.{IsNoRequest}
use Rattle.fsfs_job_run.specs.Serial.Jobs.{bench_told, tells_full}
use Rattle.fsfs_job_run.proofs.BenchCauses.{bar_told}
use Rattle.fsfs_job_run.proofs.Causes.{bar_fails}
use Rattle.fsfs_job_run.proofs.Alone.{is_lone}
use Rattle.fsfs_job_run.proofs.Answered.{committed_by, barred_by, disk_by, bench_by}
use Rattle.fsfs_job_run.proofs.Bars.{bar_none}
use Rattle.fsfs_job_run.proofs.Full.{bar_unfull}
use Rattle.fsfs_job_run.proofs.Listing.{unlisted_behind, committed_unlists, disk_unlists, bench_unlists, back_keeps, back_is}
use Rattle.fsfs_job_run.proofs.Seen.{some_seen, history_seen, over_seen}
use Rattle.fsfs_job_run.proofs.ending.commit_with.Goals as goal

pub returns-in-Committed-clause-ends : goal.returns-in-Committed-clause-ends
returns-in-Committed-clause-ends g c = λ v x known none told given is.
    let before = c.args.repo.turns in
    let after = c.commit-repo.result.0.turns in
    committed_by _ _ _ _ c.commit-repo.result.1 (Rose (g.D.Disk.faults before.disk) (g.D.Disk.faults after.disk)) c.args.micros c.args.job.now c.args.properties v x (KnowsAlone after.layout after.floor after.young after.stuck (g.D.Disk.trace after.disk)) (is_lone after.layout after.floor after.young after.stuck (g.D.Disk.trace after.disk)) c.in-Committed.rev c.in-Committed.purged ((is_lone before.layout before.floor before.young before.stuck (g.D.Disk.trace before.disk)).number v known) known.1.own
    c.requires.undated c.in-Committed.is (c.commit-repo.ensures.meets v x known none given is)

pub returns-in-Barred-clause-ends : goal.returns-in-Barred-clause-ends
returns-in-Barred-clause-ends g c = λ v x known none told given is.
    let before = c.args.repo.turns in
    let mid = c.commit-repo.result.0.turns in
    let after = c.purged.result.turns in
    barred_by _ _ _ _ c.commit-repo.result.1 (Rose (g.D.Disk.faults before.disk) (g.D.Disk.faults after.disk)) c.args.micros c.args.job.now c.args.properties v x (KnowsAlone mid.layout mid.floor mid.young mid.stuck (g.D.Disk.trace mid.disk)) (KnowsAlone after.layout after.floor after.young after.stuck (g.D.Disk.trace after.disk)) (is_lone mid.layout mid.floor mid.young mid.stuck (g.D.Disk.trace mid.disk)) (is_lone after.layout after.floor after.young after.stuck (g.D.Disk.trace after.disk)) c.in-Barred.bar c.in-Barred.txn c.barred.result
    (history_seen before.layout before.floor before.young before.stuck (g.D.Disk.trace before.disk) v known) (over_seen v.seen _ _ _ x is) known.1.own none told (some_seen before.layout before.floor before.young before.stuck (g.D.Disk.trace before.disk) v known) given c.barred.ensures c.in-Barred.is (c.commit-repo.ensures.meets v x known none given is) (λ u k o i. c.purged.ensures.leaves u k o i)

pub returns-in-DiskFault-clause-ends : goal.returns-in-DiskFault-clause-ends
returns-in-DiskFault-clause-ends g c = λ v x known none told given is.
    let before = c.args.repo.turns in
    let after = c.commit-repo.result.0.turns in
    disk_by _ _ _ _ c.commit-repo.result.1 (Rose (g.D.Disk.faults before.disk) (g.D.Disk.faults after.disk)) c.args.micros c.args.job.now c.args.properties v x (KnowsAlone after.layout after.floor after.young after.stuck (g.D.Disk.trace after.disk)) (is_lone after.layout after.floor after.young after.stuck (g.D.Disk.trace after.disk)) c.in-DiskFault.place c.stopped.result known.1.own none c.stopped.ensures c.requires.undated c.in-DiskFault.is
    c.commit-repo.ensures.cause (c.commit-repo.ensures.meets v x known none given is)

pub returns-in-BenchFault-clause-ends : goal.returns-in-BenchFault-clause-ends
returns-in-BenchFault-clause-ends g c = λ v x known none told given is.
    let before = c.args.repo.turns in
    let after = c.commit-repo.result.0.turns in
    bench_by _ _ _ _ c.commit-repo.result.1 (Rose (g.D.Disk.faults before.disk) (g.D.Disk.faults after.disk)) c.args.micros c.args.job.now c.args.properties v x (KnowsAlone after.layout after.floor after.young after.stuck (g.D.Disk.trace after.disk)) (is_lone after.layout after.floor after.young after.stuck (g.D.Disk.trace after.disk)) c.stopped-in-BenchFault.result known.1.own none c.stopped-in-BenchFault.ensures c.in-BenchFault.is
    (c.commit-repo.ensures.meets v x known none given is)

pub returns-in-Barred-clause-plain : goal.returns-in-Barred-clause-plain
returns-in-Barred-clause-plain g c = subst IsNoRequest (sym c.barred.ensures) (bar_none c.args.job.now.line c.in-Barred.bar)

pub returns-in-DiskFault-clause-plain : goal.returns-in-DiskFault-clause-plain
returns-in-DiskFault-clause-plain g c = subst IsNoRequest (sym c.stopped.ensures) tt

pub returns-in-BenchFault-clause-plain : goal.returns-in-BenchFault-clause-plain
returns-in-BenchFault-clause-plain g c = subst IsNoRequest (sym c.stopped-in-BenchFault.ensures) tt

pub returns-in-Barred-clause-cause : goal.returns-in-Barred-clause-cause
returns-in-Barred-clause-cause g c =
    let rose = Rose (g.D.Disk.faults c.args.repo.turns.disk) (g.D.Disk.faults c.purged.result.turns.disk) in
    subst (λ (a : JobAnswer). IfAnswerFails a rose) (sym c.barred.ensures) (bar_fails rose c.args.job.now.line c.in-Barred.bar)

pub returns-in-DiskFault-clause-cause : goal.returns-in-DiskFault-clause-cause
returns-in-DiskFault-clause-cause g c =
    let rose = Rose (g.D.Disk.faults c.args.repo.turns.disk) (g.D.Disk.faults c.commit-repo.result.0.turns.disk) in
    subst (λ (a : JobAnswer). IfAnswerFails a rose) (sym c.stopped.ensures) (subst (λ a. IfFailed a rose) c.in-DiskFault.is c.commit-repo.ensures.cause)

pub returns-in-BenchFault-clause-cause : goal.returns-in-BenchFault-clause-cause
returns-in-BenchFault-clause-cause g c =
    let rose = Rose (g.D.Disk.faults c.args.repo.turns.disk) (g.D.Disk.faults c.commit-repo.result.0.turns.disk) in
    subst (λ (a : JobAnswer). IfAnswerFails a rose) (sym c.stopped-in-BenchFault.ensures) tt

pub returns-in-Committed-clause-listed : goal.returns-in-Committed-clause-listed
returns-in-Committed-clause-listed g c = committed_unlists _ _ _ _ c.commit-repo.result.1 c.commit-repo.ensures.listed c.in-Committed.rev c.in-Committed.purged c.in-Committed.is

pub returns-in-Barred-clause-listed : goal.returns-in-Barred-clause-listed
returns-in-Barred-clause-listed g c =
    let count = g.D.Disk.faults in
    let start = count c.args.repo.turns.disk in
    let mid = count c.commit-repo.result.0.turns.disk in
    let now = count c.purged.result.turns.disk in
    unlisted_behind (Rose mid now) (Rose start now) _ _ _ _ _ (λ r. omega (arith, r, c.commit-repo.ensures.later)) (back_is c.commit-repo.result.1 _ c.in-Barred.bar c.in-Barred.txn c.in-Barred.is c.commit-repo.ensures.named)
    (back_keeps _ _ _ _ c.commit-repo.result.1 c.commit-repo.ensures.listed c.in-Barred.bar c.in-Barred.txn c.in-Barred.is) c.purged.ensures.listed

pub returns-in-DiskFault-clause-listed : goal.returns-in-DiskFault-clause-listed
returns-in-DiskFault-clause-listed g c = disk_unlists _ _ _ _ c.commit-repo.result.1 c.commit-repo.ensures.listed c.in-DiskFault.place c.in-DiskFault.is

pub returns-in-BenchFault-clause-listed : goal.returns-in-BenchFault-clause-listed
returns-in-BenchFault-clause-listed g c = bench_unlists _ _ _ _ c.commit-repo.result.1 c.commit-repo.ensures.listed c.in-BenchFault.is

pub returns-in-Committed-clause-benches : goal.returns-in-Committed-clause-benches
returns-in-Committed-clause-benches g c =
    let count = g.D.Disk.bench_faults in
    subst (λ a. RoseBy (bench_faults_told a) (count c.args.repo.turns.disk) (count c.commit-repo.result.0.turns.disk)) c.in-Committed.is c.commit-repo.ensures.benches

pub returns-in-Barred-clause-benches : goal.returns-in-Barred-clause-benches
returns-in-Barred-clause-benches g c =
    let count = g.D.Disk.bench_faults in
    let rose = subst (λ a. RoseBy (bench_faults_told a) (count c.args.repo.turns.disk) (count c.commit-repo.result.0.turns.disk)) c.in-Barred.is c.commit-repo.ensures.benches in
    let told = ap bench_told c.barred.ensures ∙ bar_told c.args.job.now.line c.in-Barred.bar in
    omega (arith, rose, told, c.purged.ensures.benches)

pub returns-in-DiskFault-clause-benches : goal.returns-in-DiskFault-clause-benches
returns-in-DiskFault-clause-benches g c =
    let count = g.D.Disk.bench_faults in
    let rose = subst (λ a. RoseBy (bench_faults_told a) (count c.args.repo.turns.disk) (count c.commit-repo.result.0.turns.disk)) c.in-DiskFault.is c.commit-repo.ensures.benches in
    subst (λ (a : JobAnswer). RoseBy (bench_told a) (count c.args.repo.turns.disk) (count c.commit-repo.result.0.turns.disk)) (sym c.stopped.ensures) rose

pub returns-in-BenchFault-clause-benches : goal.returns-in-BenchFault-clause-benches
returns-in-BenchFault-clause-benches g c =
    let count = g.D.Disk.bench_faults in
    let rose = subst (λ a. RoseBy (bench_faults_told a) (count c.args.repo.turns.disk) (count c.commit-repo.result.0.turns.disk)) c.in-BenchFault.is c.commit-repo.ensures.benches in
    subst (λ (a : JobAnswer). RoseBy (bench_told a) (count c.args.repo.turns.disk) (count c.commit-repo.result.0.turns.disk)) (sym c.stopped-in-BenchFault.ensures) rose

pub returns-in-Barred-clause-unfull : goal.returns-in-Barred-clause-unfull
returns-in-Barred-clause-unfull g c = ap tells_full c.barred.ensures ∙ bar_unfull c.args.job.now.line c.in-Barred.bar

pub returns-in-DiskFault-clause-unfull : goal.returns-in-DiskFault-clause-unfull
returns-in-DiskFault-clause-unfull g c = ap tells_full c.stopped.ensures

pub returns-in-BenchFault-clause-unfull : goal.returns-in-BenchFault-clause-unfull
returns-in-BenchFault-clause-unfull g c = ap tells_full c.stopped-in-BenchFault.ensures
