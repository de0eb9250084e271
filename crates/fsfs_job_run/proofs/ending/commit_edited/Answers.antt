use Rattle.std.proofs.Common.{ℕ, inr, refl, subst, arith}
use Rattle.fsfs_base.specs.Failures.{Rose}
use Rattle.fsfs_machine.specs.Kept.{IsIn}
use Rattle.fsfs_turn.specs.Alone.{KnowsAlone}
use Rattle.fsfs_cli.specs.declared.faults.fault.Fault.TheVariants.{Memory}
use Rattle.fsfs_script.specs.declared.job_lines.job.Job.TheVariants as jobs
use Rattle.fsfs_jobs.specs.declared.answer.JobAnswer.TheVariants.{Stopped}
use Rattle.fsfs_job_run.specs.Serial.Jobs.{ByMemory}
use Rattle.fsfs_job_run.proofs.Alone.{is_lone}
use Rattle.fsfs_job_run.proofs.Ends.{ends_purged}
use Rattle.fsfs_job_run.proofs.Staying.{stays_here}
use Rattle.fsfs_job_run.proofs.ending.commit_edited.Goals as goal

pub returns-in-Ok-clause-ends : goal.returns-in-Ok-clause-ends
returns-in-Ok-clause-ends g c = λ v x known none told given is. c.commit_with.ensures.ends v x known none told given is

pub returns-in-Err-clause-ends : goal.returns-in-Err-clause-ends
returns-in-Err-clause-ends g c = λ v x known none told given is.
    let after = c.purged.result.turns in
    let job = c.args.job.now in
    ends_purged (KnowsAlone after.layout after.floor after.young after.stuck (g.D.Disk.trace after.disk)) (is_lone after.layout after.floor after.young after.stuck (g.D.Disk.trace after.disk)) (Rose (g.D.Disk.faults c.args.repo.turns.disk) (g.D.Disk.faults after.disk)) c.args.micros job (Stopped job.line Memory) x v v (stays_here v none) (λ few. few) refl tt (inr (ByMemory (jobs.Commit job) job.line)) (λ u same. tt)
    (c.purged.ensures.leaves v known none (subst (λ (k : ℕ). IsIn k v.given) is.numbered given))

pub returns-in-Ok-clause-listed : goal.returns-in-Ok-clause-listed
returns-in-Ok-clause-listed g c = c.commit_with.ensures.listed

pub returns-in-Err-clause-listed : goal.returns-in-Err-clause-listed
returns-in-Err-clause-listed g c = c.purged.ensures.listed

pub returns-in-Err-clause-benches : goal.returns-in-Err-clause-benches
returns-in-Err-clause-benches g c = omega (arith, c.purged.ensures.benches)
