use Rattle.fsfs_job_run.proofs.BesideLemmas.{all_stay}
use Rattle.fsfs_job_run.proofs.worker_laws.lines_of_workers_stay.Goals as goal

pub returns : goal.returns
returns c = all_stay
