use Rattle.fsfs_job_run.proofs.SerialJobLemmas.{go_on}
use Rattle.fsfs_job_run.proofs.serial.laws.runs_go_on.Goals as goal

pub returns : goal.returns
returns c = go_on
