use Rattle.fsfs_job_run.proofs.SerialJobLemmas.{runs_serial}
use Rattle.fsfs_job_run.proofs.serial.laws.runs_are_serial.Goals as goal

pub returns : goal.returns
returns c = runs_serial
