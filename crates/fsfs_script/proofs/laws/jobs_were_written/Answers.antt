use Rattle.fsfs_script.proofs.JobsFound.{jobs_found}
use Rattle.fsfs_script.proofs.laws.jobs_were_written.Goals as goal

pub returns : goal.returns
returns c = jobs_found
