use Rattle.fsfs_job_run.proofs.BesideLemmas.{one_more}
use Rattle.fsfs_job_run.proofs.worker_laws.work_goes_on.Goals as goal

pub returns : goal.returns
returns c = one_more
