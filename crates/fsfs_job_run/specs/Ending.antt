-- What becomes of a job's transaction.
use Rattle.std.specs.Prelude.{◌≡◌, ◌⊎◌, ◌<◌, ℕ, List, [], length, Option, Some}
use Rattle.std.specs.FinMap.{get}
use Rattle.fsfs_base.specs.Fields.Dates.{IsDateAt}
use Rattle.fsfs_base.specs.Fields.RevNums.{last_rev}
use Rattle.fsfs_tree.specs.Histories.{IsHistory}
use Rattle.fsfs_tree.specs.Revisions.{Revision, tree_of}
use Rattle.fsfs_model.specs.Flat.Transactions.{IsNext}
use Rattle.fsfs_tree.specs.Dated.{last_of}
use Rattle.fsfs_machine.specs.declared.machine.Coming.{Coming}
use Rattle.fsfs_machine.specs.declared.machine.Txn.{Txn}
use Rattle.fsfs_machine.specs.declared.machine.Recorded.{Recorded}
use Rattle.fsfs_machine.specs.Kept.{Follows}
use Rattle.fsfs_machine.specs.Machine.{revisions, entry_of}
use Rattle.fsfs_turn.specs.Views.{View, Begins}
use Rattle.fsfs_script.specs.declared.job_lines.job.CommitJob.{CommitJob}
use Rattle.fsfs_script.specs.declared.job_lines.job.Job.TheVariants as jobs
use Rattle.fsfs_cli.specs.declared.faults.fault.Fault.TheVariants.{Limit}
use Rattle.fsfs_cli.specs.declared.faults.limit_fault.LimitFault.TheVariants.{RevsFull}
use Rattle.fsfs_jobs.specs.Edits.{TakesSteps}
use Rattle.fsfs_jobs.specs.Properties.{job_properties}
use Rattle.fsfs_jobs.specs.Serial.{Commits}
use Rattle.fsfs_jobs.specs.declared.answer.JobAnswer.{JobAnswer}
use Rattle.fsfs_jobs.specs.declared.answer.JobAnswer.TheVariants.{Stopped}
use Rattle.fsfs_job_run.specs.Serial.Jobs.{IfAdded, Fails, Leaves}
use Rattle.fsfs_job_run.specs.Running.{HasOutsideCause}

-- what a commit of the transaction answers, by the flat model: it is added, or clashes; or all numbers of revisions were given
pub data CommitsTxn (moment pass : ℕ) (job : CommitJob) (h : List Revision) (x : Txn) : JobAnswer → List Revision → Type 0 where
  ByCommit : (date : List ℕ) (answer : JobAnswer) (now : List Revision) → IfAdded answer (IsDateAt moment date) → Commits h (entry_of pass x (job_properties date job)) answer now → CommitsTxn moment pass job h x answer now
  ByRevs : last_rev < length h → CommitsTxn moment pass job h x (Stopped job.line (Limit RevsFull)) h

-- The commit of the transaction was to add this revision, with a date of the moment: it follows by its entry each history that goes on from what was
-- seen and that it follows at all.
pub record WasToCommit (moment pass : ℕ) (job : CommitJob) (x : Txn) (seen : List Recorded) (c : Coming) : Type 0 where
  pub date : List ℕ
  pub dated : IsDateAt moment date
  pub lands : (g : List Recorded) → Begins g seen → IsHistory (revisions g) → Follows g c → IsNext (revisions g) (entry_of pass x (job_properties date job)) c.revision

-- what is left in doubt is what was, or the revision that the commit was to add
abbrev pub TxnLeft : ℕ → CommitJob → Txn → View → View → Type 0
TxnLeft moment job x v u = (u.left ≡ v.left) ⊎ ((c : Coming) × (u.left ≡ Some c) × WasToCommit moment v.number job x u.seen c)

-- ENDS: the transaction x was committed, or is purged
pub record EndsTxn (moment : ℕ) (job : CommitJob) (answer : JobAnswer) (x : Txn) (v u : View) : Type 0 where
  pub done : CommitsTxn moment v.number job (revisions v.seen) x answer (revisions u.seen) ⊎ Fails (jobs.Commit job) answer
  pub leaves : Leaves answer v u
  pub left : TxnLeft moment job x v u

abbrev pub EndsSo : (View → Type 0) → Type 0 → ℕ → CommitJob → JobAnswer → Txn → View → Type 0
EndsSo knows rose moment job answer x v = (u : View) × knows u × EndsTxn moment job answer x v u × HasOutsideCause rose u answer

-- the edits of the job were done in it
pub record IsEdited (job : CommitJob) (base : ℕ) (h : List Revision) (x : Txn) : Type 0 where
  pub on : x.base ≡ base
  pub takes : TakesSteps (tree_of h) (last_of h) (tree_of h base) [] job.steps (get x.tree) x.marks
