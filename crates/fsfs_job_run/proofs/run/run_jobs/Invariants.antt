use Rattle.std.proofs.Common.{◌≡◌, ◌⊎◌, ◌≤◌, ℕ, true, take, length}
use Rattle.std.specs.Prelude.{None, vec_len, option_map}
use Rattle.fsfs_disk.specs.Trace.{labels_now}
use Rattle.fsfs_turn.specs.Mountings.{RoseBy}
use Rattle.fsfs_repo.specs.BeginSteps.{HasLastName}
use Rattle.fsfs_turn.specs.Telling.{owned_view, state_of}
use Rattle.fsfs_job_run.specs.Serial.Jobs.{bench_faults_in, tell_full}
use Rattle.fsfs_job_run.specs.Serial.Listed.{LeavesListed}
use Rattle.std.specs.Vec.{vec_capacity}
use Rattle.fsfs_turn.specs.Alone.{KnowsAlone}
use Rattle.fsfs_turn.specs.Views.{View}
use Rattle.fsfs_base.specs.Failures.{Rose}
use Rattle.fsfs_job_run.specs.Workers.Lines.{disk_faults_in}
use Rattle.fsfs_job_run.specs.Running.{DoAll, HasGiven}
use Rattle.fsfs_job_run.proofs.run.run_jobs.Given as goal

-- so many jobs were done
abbrev pub invariant-loop-job : goal.invariant-loop-job
invariant-loop-job g l = record {
  does : (v : View) → KnowsAlone l.fn.repo.turns.layout l.fn.repo.turns.floor l.fn.repo.turns.young l.fn.repo.turns.stuck (g.D.Disk.trace l.fn.repo.turns.disk) v → v.section ≡ None
      → DoAll (KnowsAlone l.repo.turns.layout l.repo.turns.floor l.repo.turns.young l.repo.turns.stuck (g.D.Disk.trace l.repo.turns.disk)) l.micros (take l.job-index l.jobs) l.answers.items v;
  full : (v : View) → KnowsAlone l.fn.repo.turns.layout l.fn.repo.turns.floor l.fn.repo.turns.young l.fn.repo.turns.stuck (g.D.Disk.trace l.fn.repo.turns.disk) v → v.section ≡ None → tell_full l.answers.items ≡ true
      → HasLastName (owned_view (state_of l.repo.turns.layout l.repo.turns.floor l.repo.turns.young l.repo.turns.stuck (g.D.Disk.trace l.repo.turns.disk) (g.D.Disk.mount_path l.repo.turns.disk) (g.D.Disk.bench_faults l.repo.turns.disk)));
  numbered : l.number ≡ l.job-index;
  room : vec_capacity l.answers ≡ length l.jobs;
  count : vec_len l.answers ≡ l.job-index;
  mounted : g.D.Disk.mount_path l.repo.turns.disk ≡ g.D.Disk.mount_path l.fn.repo.turns.disk;
  benches : RoseBy (bench_faults_in l.answers.items) (g.D.Disk.bench_faults l.fn.repo.turns.disk) (g.D.Disk.bench_faults l.repo.turns.disk);
  later : g.D.Disk.faults l.fn.repo.turns.disk ≤ g.D.Disk.faults l.repo.turns.disk;
  listed : (least : ℕ) → HasGiven (KnowsAlone l.fn.repo.turns.layout l.fn.repo.turns.floor l.fn.repo.turns.young l.fn.repo.turns.stuck (g.D.Disk.trace l.fn.repo.turns.disk)) least
      → LeavesListed least l.job-index (option_map labels_now (g.D.Disk.trace l.fn.repo.turns.disk)) (option_map labels_now (g.D.Disk.trace l.repo.turns.disk))
      ⊎ Rose (g.D.Disk.faults l.fn.repo.turns.disk) (g.D.Disk.faults l.repo.turns.disk);
  cause : RoseBy (disk_faults_in l.answers.items) (g.D.Disk.faults l.fn.repo.turns.disk) (g.D.Disk.faults l.repo.turns.disk);
}
