-- A job that a worker does while others add revisions too, and what its line says of the one history.
use Rattle.std.specs.Prelude.{◌≡◌, ◌⊎◌, ◌<◌, ◌≤◌, ◌+◌, ◌++◌, ◌∷◌, [], ℕ, List, length, take, Some, slice_get}
use Rattle.fsfs_base.specs.Fields.Dates.{IsDateAt}
use Rattle.fsfs_tree.specs.Revisions.{Revision, tree_of}
use Rattle.fsfs_tree.specs.Dated.{last_of}
use Rattle.fsfs_tree.specs.Answers.{found_at}
use Rattle.fsfs_machine.specs.declared.machine.Recorded.{Recorded}
use Rattle.fsfs_machine.specs.Machine.{revisions}
use Rattle.fsfs_script.specs.declared.job_lines.job.Base.{Base}
use Rattle.fsfs_script.specs.declared.job_lines.job.Base.TheVariants.{Youngest, Number}
use Rattle.fsfs_script.specs.declared.job_lines.job.CommitJob.{CommitJob}
use Rattle.fsfs_script.specs.declared.job_lines.job.ReadJob.{ReadJob}
use Rattle.fsfs_script.specs.declared.job_lines.job.Job.{Job}
use Rattle.fsfs_script.specs.declared.job_lines.job.Job.TheVariants as jobs
use Rattle.fsfs_cli.specs.declared.faults.fault.Fault.{Fault}
use Rattle.fsfs_cli.specs.declared.faults.fault.Fault.TheVariants.{Request}
use Rattle.fsfs_cli.specs.declared.faults.request_fault.RequestFault.TheVariants.{NoRev}
use Rattle.fsfs_jobs.specs.Serial.{IsReadOf, Transacts}
use Rattle.fsfs_jobs.specs.declared.answer.JobAnswer.{JobAnswer}
use Rattle.fsfs_jobs.specs.declared.answer.JobAnswer.TheVariants.{Committed, Read, Conflict, Stopped}
use Rattle.fsfs_job_run.specs.Serial.Counts.{IfCounted, StopsOver}
use Rattle.fsfs_job_run.specs.Serial.Jobs.{IfAdded, Fails}

-- The revision that a job is about: the one that it numbers; or for `head` one that was the youngest as the job began or since, where revision
-- k was known as it began.
abbrev pub IsBase : Base → ℕ → ℕ → ℕ → Type 0
IsBase Youngest k last base = (k ≤ base) × (base ≤ last)
IsBase (Number n) k last base = (base ≡ n) × (n ≤ last)

-- THE ANSWER OF A JOB BESIDE OTHERS: g is the history as it was when the job came to its end, and the last is the history behind it. But for
-- the base of `head`, it is what the job alone does to g.
pub data RunsBeside (g : List Revision) (date : List ℕ) (k : ℕ) : Job → JobAnswer → List Revision → Type 0 where
  ReadsText : (job : ReadJob) (answer : JobAnswer) (base : ℕ) → IsBase job.base k (last_of g) base → IsReadOf job base (found_at (tree_of g base) job.path) answer → RunsBeside g date k (jobs.Read job) answer g
  LacksRead : (job : ReadJob) (n : ℕ) → job.base ≡ Number n → last_of g < n → RunsBeside g date k (jobs.Read job) (Stopped job.line (Request (NoRev n (last_of g)))) g
  LacksBase : (job : CommitJob) (n : ℕ) → job.base ≡ Number n → last_of g < n → RunsBeside g date k (jobs.Commit job) (Stopped job.line (Request (NoRev n (last_of g)))) g
  DoesEdits : (job : CommitJob) (answer : JobAnswer) (now : List Revision) (base : ℕ) → IsBase job.base k (last_of g) base → Transacts g date job base answer now → RunsBeside g date k (jobs.Commit job) answer now

-- the history begins with this part
abbrev pub GoesOnFrom : List Revision → List Revision → Type 0
GoesOnFrom part h = (more : List Revision) × (h ≡ part ++ more)

-- The job came to its end in a first part of this history that has revision k, with a date of the moment where it added a revision; and the
-- history goes on from what was there behind it.
pub record IsDone (moment : ℕ) (h : List Revision) (k : ℕ) (job : Job) (answer : JobAnswer) : Type 0 where
  pub before : List Revision
  pub behind : List Revision
  pub known : k < length before
  pub date : List ℕ
  pub dated : IfAdded answer (IsDateAt moment date)
  pub runs : RunsBeside before date k job answer behind
  pub part : GoesOnFrom behind h

-- The job was to add this revision to this history, which has revision k, with a date of the moment: what it would have added to that by its entry.
pub record WasToAddTo (moment : ℕ) (h : List Revision) (k : ℕ) (job : Job) (next : Revision) : Type 0 where
  pub known : k < length h
  pub date : List ℕ
  pub dated : IsDateAt moment date
  pub runs : RunsBeside h date k job (Committed (length h)) (h ++ next ∷ [])

-- one of these was
pub record IsOfOne (moment : ℕ) (h : List Revision) (k : ℕ) (js : List Job) (next : Revision) : Type 0 where
  pub at : ℕ
  pub job : Job
  pub is : slice_get js at ≡ Some job
  pub was : WasToAddTo moment h k job next

-- A job was refused for mergeinfo over a first part of this history that has revision k: by the flat model, or for counts in the bytes beside its
-- revisions.
abbrev pub CountsIn : List Recorded → ℕ → CommitJob → ℕ → Fault → Type 0
CountsIn h k job line fault = (last : ℕ) × (k ≤ last) × (last < length h) × StopsOver (take (last + 1) h) job line fault

-- WHAT A LINE SAYS of a history (with the bytes beside each revision), of a worker that knew revision k as the job began: it was done so, or it
-- failed.
abbrev pub LineHolds : ℕ → List Recorded → ℕ → Job → JobAnswer → Type 0
LineHolds moment h k job answer = IsDone moment (revisions h) k job answer ⊎ (Fails job answer × IfCounted job answer (CountsIn h k))

-- the greatest revision that a line shows, which its worker knows from then on
abbrev pub shown_in : JobAnswer → ℕ
shown_in (Committed rev) = rev
shown_in (Read text) = text.rev
shown_in (Conflict head path) = head
shown_in (Stopped line (Request (NoRev asked youngest))) = youngest
shown_in answer = 0
