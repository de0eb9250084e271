-- Why a job is refused for mergeinfo.
use Rattle.std.specs.Prelude.{ℕ, List, []}
use Rattle.fsfs_base.specs.declared.fields.txn_name.TxnName.{TxnName}
use Rattle.fsfs_tree.specs.Revisions.{tree_of}
use Rattle.fsfs_tree.specs.Dated.{last_of}
use Rattle.fsfs_machine.specs.declared.machine.Recorded.{Recorded}
use Rattle.fsfs_machine.specs.Machine.{revisions}
use Rattle.fsfs_turn.specs.Bytes.{bytes_of}
use Rattle.fsfs_script.specs.declared.job_lines.job.CommitJob.{CommitJob}
use Rattle.fsfs_script.specs.declared.job_lines.job.Job.{Job}
use Rattle.fsfs_script.specs.declared.job_lines.job.Job.TheVariants as jobs
use Rattle.fsfs_cli.specs.declared.faults.fault.Fault.{Fault}
use Rattle.fsfs_cli.specs.declared.faults.fault.Fault.TheVariants.{Request}
use Rattle.fsfs_cli.specs.declared.faults.request_fault.RequestFault.TheVariants.{Mergeinfo}
use Rattle.fsfs_jobs.specs.Edits.{StopsAt}
use Rattle.fsfs_jobs.specs.Serial.{base_of}
use Rattle.fsfs_jobs.specs.declared.answer.JobAnswer.{JobAnswer}
use Rattle.fsfs_jobs.specs.declared.answer.JobAnswer.TheVariants.{Stopped}
use Rattle.fsfs_jobs.specs.JobEdits.Editing.{Bars}

-- the first edit that is not done stands on this line, and is refused for this: by the flat model, or for counts of mergeinfo in the bytes
abbrev pub StopsOver : List Recorded → CommitJob → ℕ → Fault → Type 0
StopsOver h job line fault =
    (name : TxnName) × StopsAt (Bars (bytes_of h) (tree_of (revisions h)) (last_of (revisions h)) (base_of job.base (last_of (revisions h))) name) (tree_of (revisions h)) (last_of (revisions h))
    (tree_of (revisions h) (base_of job.base (last_of (revisions h)))) [] job.steps line fault

-- a fact of a job that was refused for mergeinfo
abbrev pub IfCounted : Job → JobAnswer → (CommitJob → ℕ → Fault → Type 0) → Type 0
IfCounted (jobs.Commit job) (Stopped line (Request (Mergeinfo path))) P = P job line (Request (Mergeinfo path))
IfCounted job answer P = Unit {0}
