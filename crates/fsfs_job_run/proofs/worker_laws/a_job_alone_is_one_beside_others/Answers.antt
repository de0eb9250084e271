use Rattle.fsfs_job_run.proofs.BesideLemmas.{alone}
use Rattle.fsfs_job_run.proofs.worker_laws.a_job_alone_is_one_beside_others.Goals as goal

pub returns : goal.returns
returns c = alone
