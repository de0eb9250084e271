use Rattle.fsfs_job_run.proofs.SerialJobLemmas.{grow}
use Rattle.fsfs_job_run.proofs.serial.laws.runs_grow.Goals as goal

pub returns : goal.returns
returns c = grow
