use Rattle.fsfs_job_run.proofs.Clashing.{clash_back}
use Rattle.fsfs_job_run.proofs.serial.laws.landed_clashes_are_clashes.Goals as goal

pub returns : goal.returns
returns c = clash_back
