use Rattle.std.specs.Prelude.{false}
use Rattle.fsfs_script.specs.Places.{behind_empty_lines}
use Rattle.fsfs_script.proofs.Decided.{job_not_refused}
use Rattle.fsfs_script.proofs.JobsAgain.{jobs_again}
use Rattle.fsfs_script.proofs.laws.none_is_refused.Goals as goal

pub returns : goal.returns
returns c = λ p error job after refused written. job_not_refused false (behind_empty_lines p) job after error (jobs_again (behind_empty_lines p) job after written) refused.refused
