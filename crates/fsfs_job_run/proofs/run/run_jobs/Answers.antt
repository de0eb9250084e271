use Rattle.std.proofs.Common.{◌≡◌, ◌+◌, ap, ℕ, ◌∙◌, refl, inl, length, arith}
use Rattle.fsfs_turn.specs.Alone.{KnowsAlone}
use Rattle.fsfs_base.specs.Failures.{Rose}
use Rattle.fsfs_job_run.proofs.Listing.{given_on, lists_within}
use Rattle.fsfs_job_run.proofs.SerialJobLemmas.{grow}
use Rattle.fsfs_job_run.proofs.Full.{full_as, full_more, none_full}
use Rattle.fsfs_job_run.proofs.Going.{done_none, runs_more, runs_all}
use Rattle.fsfs_job_run.specs.Serial.Jobs.{bench_faults_in}
use Rattle.fsfs_job_run.specs.Workers.Lines.{disk_faults_in}
use Rattle.fsfs_job_run.proofs.BenchCounts.{benches_more}
use Rattle.fsfs_job_run.proofs.DiskCounts.{rose_more}
use Rattle.fsfs_job_run.proofs.ListedLemmas.{none_begun, lists_on}
use Rattle.fsfs_repo.proofs.Crashes.{survives}
use Rattle.fsfs_job_run.proofs.run.run_jobs.Goals as goal

pub loop-job-init : goal.loop-job-init
loop-job-init g c =
    let turns = c.args.repo.turns in
    record {
      does = λ v known none. done_none (KnowsAlone turns.layout turns.floor turns.young turns.stuck (g.D.Disk.trace turns.disk)) c.args.micros c.in-Ok.answers.items v c.in-Ok.ensures.items known none;
      full = λ v known none told. none_full c.in-Ok.answers.items c.in-Ok.ensures.items told;
      numbered = refl;
      room = c.in-Ok.ensures.exact;
      count = c.in-Ok.ensures.len;
      mounted = refl;
      benches = let none : bench_faults_in c.in-Ok.answers.items ≡ 0 = ap bench_faults_in c.in-Ok.ensures.items in omega (arith, none);
      later = omega arith;
      listed = λ least has. inl (none_begun least 0 _ _ refl);
      cause = let none : disk_faults_in c.in-Ok.answers.items ≡ 0 = ap disk_faults_in c.in-Ok.ensures.items in omega (arith, none);
    }

pub loop-job-preserved : goal.loop-job-preserved
loop-job-preserved g c =
    let inv = c.loop-job.invariant in
    let start = c.args.repo.turns in
    let before = c.loop-job.repo.turns in
    let after = c.do_job-after.result.0.turns in
    record {
      does = λ v known none.
          runs_more (KnowsAlone before.layout before.floor before.young before.stuck (g.D.Disk.trace before.disk)) (KnowsAlone after.layout after.floor after.young after.stuck (g.D.Disk.trace after.disk)) _ c.args.micros c.args.jobs.now c.loop-job.job-index c.job-item.result (omega arith) c.job-item.is
          c.loop-job.answers.items c.do_job-after.result.1 c.push_reserved.new.self.items c.push_reserved.ensures.items v (λ u k. k.1.found) (inv.does v known none) (λ m k s. c.do_job-after.ensures.does m k s) (λ m k s. c.do_job-after.ensures.counted m k s);
      full = λ v known none told.
          let d = inv.does v known none in
          let last = full_more c.loop-job.answers.items c.do_job-after.result.1 c.push_reserved.new.self.items c.push_reserved.ensures.items (inv.full v known none) (c.do_job-after.ensures.full d.0 d.1 d.2) told in
          full_as _ _ (c.do_job-after.ensures.stays last) last;
      numbered = ap (λ (n : ℕ). n + 1) inv.numbered;
      room = c.push_reserved.ensures.capacity ∙ inv.room;
      count = c.push_reserved.ensures.len ∙ ap (λ (n : ℕ). n + 1) inv.count;
      mounted = c.do_job-after.ensures.mounted ∙ inv.mounted;
      benches =
          let count = g.D.Disk.bench_faults in
          let more = benches_more c.loop-job.answers.items c.do_job-after.result.1 (count start.disk) (count before.disk) (count after.disk) inv.benches c.do_job-after.ensures.benches in
          let are = ap bench_faults_in c.push_reserved.ensures.items in
          omega (arith, more, are);
      later = omega (arith, inv.later, c.do_job-after.ensures.later);
      listed = λ least has. lists_on (Rose (g.D.Disk.faults start.disk) (g.D.Disk.faults before.disk)) (Rose (g.D.Disk.faults before.disk) (g.D.Disk.faults after.disk)) (Rose (g.D.Disk.faults start.disk) (g.D.Disk.faults after.disk)) least c.loop-job.job-index 1 _ _ _ (λ r. omega (arith, r, c.do_job-after.ensures.later)) (λ r. omega (arith, r, inv.later)) (inv.listed least has)
          (c.do_job-after.ensures.listed least (given_on (KnowsAlone start.layout start.floor start.young start.stuck (g.D.Disk.trace start.disk)) (KnowsAlone before.layout before.floor before.young before.stuck (g.D.Disk.trace before.disk)) least (λ v known none. let d = inv.does v known none in (d.0, d.1, d.2, (grow c.args.micros _ _ v d.0 d.3).given)) has));
      cause =
          let count = g.D.Disk.faults in
          let more = rose_more c.loop-job.answers.items c.do_job-after.result.1 (count start.disk) (count before.disk) (count after.disk) inv.cause c.do_job-after.ensures.later c.do_job-after.ensures.cause in
          let are = ap disk_faults_in c.push_reserved.ensures.items in
          omega (arith, more, are);
    }

pub returns-clause-does : goal.returns-clause-does
returns-clause-does g c = λ v known none.
    let turns = c.loop-job.repo.turns in
    runs_all (KnowsAlone turns.layout turns.floor turns.young turns.stuck (g.D.Disk.trace turns.disk)) c.args.micros c.args.jobs.now c.loop-job.job-index c.loop-job.answers.items v (omega arith) (c.loop-job.invariant.does v known none)

pub returns-clause-full : goal.returns-clause-full
returns-clause-full g c = λ v known none told. c.loop-job.invariant.full v known none told

pub returns-clause-crashes : goal.returns-clause-crashes
returns-clause-crashes g c = λ u known. let turns = c.loop-job.repo.turns in survives turns.layout turns.floor turns.young turns.stuck (g.D.Disk.trace turns.disk) u known

pub returns-in-Err-clause-crashes : goal.returns-in-Err-clause-crashes
returns-in-Err-clause-crashes g c = λ u known. let turns = c.args.repo.turns in survives turns.layout turns.floor turns.young turns.stuck (g.D.Disk.trace turns.disk) u known

pub returns-clause-listed : goal.returns-clause-listed
returns-clause-listed g c = λ least has. lists_within _ least c.loop-job.job-index (length c.args.jobs.now) _ _ (omega arith) (c.loop-job.invariant.listed least has)

pub returns-in-Err-clause-listed : goal.returns-in-Err-clause-listed
returns-in-Err-clause-listed g c = λ least has. inl (none_begun least (length c.args.jobs.now) _ _ refl)
