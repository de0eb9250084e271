use Rattle.fsfs_script.proofs.JobsAgain.{jobs_again}
use Rattle.fsfs_script.proofs.laws.jobs_are_read.Goals as goal

pub returns : goal.returns
returns c = jobs_again
