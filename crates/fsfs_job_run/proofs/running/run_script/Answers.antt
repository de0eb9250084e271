use Rattle.fsfs_job_run.proofs.Unprinted.{printed}
use Rattle.fsfs_job_run.proofs.running.run_script.Goals as goal

pub returns-clause-ran : goal.returns-clause-ran
returns-clause-ran g c = printed c.args.micros _ _ _ _ _ _ _ _ _ c.do_script-disk.result.1 _ _ _ _ c.tell_if.result c.do_script-disk.ensures.works c.tell_if.ensures
