use Rattle.fsfs_job_run.proofs.Full.{read_unfull}
use Rattle.fsfs_job_run.proofs.JobLemmas.{job_read, job_stopped, no_bench}
use Rattle.fsfs_job_run.proofs.reads.jobs.read_job.Goals as goal

pub returns-in-Ok-clause-told : goal.returns-in-Ok-clause-told
returns-in-Ok-clause-told g c = λ look tree knows shows. job_read c.args.job.now c.args.rev look tree shows c.in-Ok.read (c.in-Ok.ensures.told look knows)

pub returns-in-Err-clause-told : goal.returns-in-Err-clause-told
returns-in-Err-clause-told g c = λ look tree knows shows. job_stopped c.args.job.now c.args.rev look tree shows c.in-Err.error c.fault_of.result (c.in-Err.ensures.told look knows) c.fault_of.ensures

pub returns-in-Err-clause-no_bench : goal.returns-in-Err-clause-no_bench
returns-in-Err-clause-no_bench g c = no_bench c.args.job.now.line c.args.job.now.path c.in-Err.error c.fault_of.result c.fault_of.ensures

pub returns-in-Err-clause-unfull : goal.returns-in-Err-clause-unfull
returns-in-Err-clause-unfull g c = read_unfull c.args.job.now.line c.args.job.now.path c.in-Err.error c.fault_of.result c.fault_of.ensures
