-- What a job does to what a pass knows, where others may add revisions between its turns.
use Rattle.std.specs.Prelude.{◌≡◌, ◌<◌, ◌≤◌, ◌+◌, ◌++◌, ℕ, List, [], length, take, true, false, None, is_some}
use Rattle.std.specs.FinMap.{get}
use Rattle.fsfs_base.specs.declared.fields.txn_name.TxnName.{TxnName}
use Rattle.fsfs_tree.specs.Revisions.{tree_of}
use Rattle.fsfs_tree.specs.Dated.{last_of}
use Rattle.fsfs_machine.specs.declared.machine.Recorded.{Recorded}
use Rattle.fsfs_machine.specs.declared.machine.Txn.{Txn}
use Rattle.fsfs_machine.specs.Kept.{IsIn}
use Rattle.fsfs_machine.specs.Machine.{revisions}
use Rattle.fsfs_turn.specs.Alone.{BringsNoDoubt}
use Rattle.fsfs_turn.specs.Views.{View, Begins}
use Rattle.fsfs_draft.specs.Drafts.{Folder}
use Rattle.fsfs_job_run.specs.Meaning.{IsTxnOf}
use Rattle.fsfs_job_run.specs.Standing.{Standing}
use Rattle.fsfs_script.specs.declared.job_lines.job.CommitJob.{CommitJob}
use Rattle.fsfs_script.specs.declared.job_lines.job.Job.{Job}
use Rattle.fsfs_jobs.specs.Edits.{TakesSteps}
use Rattle.fsfs_jobs.specs.declared.answer.JobAnswer.{JobAnswer}
use Rattle.fsfs_job_run.specs.Serial.Jobs.{own_of, tells_doubt}
use Rattle.fsfs_job_run.specs.Workers.Beside.{LineHolds, shown_in}
use Rattle.fsfs_job_run.specs.Workers.Passes.{IsOnward, LeftBeside, WorksJob, last_known}
use Rattle.fsfs_job_run.specs.Running.{HasOutsideCause}

-- NOTHING WAS ADDED by the pass. It is in no section; it may have seen more and been told more, and each name that it knew to be given is.
pub record GoesOn (v u : View) : Type 0 where
  pub number : u.number ≡ v.number
  pub since : u.since ≡ v.since
  pub opened : u.opened ≡ v.opened
  pub own : u.pass.mine ≡ v.pass.mine
  pub least : v.pass.least ≤ u.pass.least
  pub grows : Begins u.seen v.seen
  pub given : (k : ℕ) → IsIn k v.given → IsIn k u.given
  pub outside : u.section ≡ None
  pub doubtless : BringsNoDoubt v u
  pub left : u.left ≡ v.left
  pub still : is_some v.pass.stuck ≡ true → is_some u.pass.stuck ≡ true
  -- and one that met the last number of a name knows still that no name is left
  pub full : v.full ≡ true → u.full ≡ true

-- the pass knows this behind such calls, and the lock was found stuck no more than it was
abbrev pub GoesOnKnown : (View → Type 0) → View → Type 0
GoesOnKnown knows v = (u : View) × knows u × GoesOn v u × (u.pass.stuck ≡ v.pass.stuck)

-- The end of a job, from where the pass knew v, by a worker that knew revision k as the job began: its line holds of each history that goes on
-- from what the pass knows then.
pub record WorksFrom (moment k : ℕ) (job : Job) (answer : JobAnswer) (v u : View) : Type 0 where
  pub line : (h : List Recorded) → IsOnward u h → LineHolds moment h k job answer
  pub grows : Begins u.seen v.seen
  pub later : last_known v ≤ last_known u
  pub shown : shown_in answer ≤ last_known u
  pub since : u.since ≡ v.since
  pub opened : u.opened ≡ v.opened
  pub own : u.pass.mine ≡ v.pass.mine ++ own_of answer
  pub outside : u.section ≡ None
  pub doubtless : tells_doubt answer ≡ false → BringsNoDoubt v u
  pub left : LeftBeside moment k job v u
  pub still : is_some v.pass.stuck ≡ true → is_some u.pass.stuck ≡ true
  -- and one that met the last number of a name knows still that no name is left
  pub full : v.full ≡ true → u.full ≡ true

-- so it ended, and why it tells that the outside failed
abbrev pub EndsFrom : (View → Type 0) → Type 0 → ℕ → ℕ → Job → JobAnswer → View → Type 0
EndsFrom knows rose moment k job answer v = (u : View) × knows u × WorksFrom moment k job answer v u × HasOutsideCause rose u answer

-- a whole job
abbrev pub WorksSo : (View → Type 0) → Type 0 → ℕ → Job → JobAnswer → View → Type 0
WorksSo knows rose moment job answer v = (u : View) × knows u × WorksJob moment job answer v u × HasOutsideCause rose u answer

-- the first part of what was seen that ends with this revision
abbrev pub up_to : ℕ → View → List Recorded
up_to last v = take (last + 1) v.seen

-- the edits of the job were done in the transaction x over these revisions
pub record IsEditedOver (job : CommitJob) (h : List Recorded) (base : ℕ) (x : Txn) : Type 0 where
  pub on : x.base ≡ base
  pub there : base < length h
  pub takes : TakesSteps (tree_of (revisions h)) (last_of (revisions h)) (tree_of (revisions h) base) [] job.steps (get x.tree) x.marks

-- The transaction of this name on this base, of which this is settled, stands for x over what the pass has seen, and the edits of the job were
-- done in it over the first part of that which ends with this revision.
pub record IsEditedTxn (job : CommitJob) (last : ℕ) (name : TxnName) (base : ℕ) (settled : Folder) (v : View) (x : Txn) : Type 0 where
  pub stands : IsTxnOf v.seen name base settled x
  pub given : IsIn x.name v.given
  pub seen : last < length v.seen
  pub told : last ≤ v.pass.least
  pub edited : IsEditedOver job (up_to last v) base x

-- such a one is noted, over what is known
pub record IsEditedNoted (knows : View → Type 0) (job : CommitJob) (last : ℕ) (name : TxnName) (base : ℕ) (settled : Folder) (s : Standing) : Type 0 where
  pub view : View
  pub known : knows view
  pub seen : s.seen ≡ view.seen
  pub txn : IsEditedTxn job last name base settled view s.txn
