use Rattle.fsfs_job_run.proofs.BesideLemmas.{stay}
use Rattle.fsfs_job_run.proofs.worker_laws.lines_stay.Goals as goal

pub returns : goal.returns
returns c = stay
