use Rattle.fsfs_job_run.proofs.BesideLemmas.{worked}
use Rattle.fsfs_job_run.proofs.worker_laws.lines_of_workers_hold.Goals as goal

pub returns : goal.returns
returns c = worked
