-- Jobs one after another, over histories.
use Rattle.std.specs.Prelude.{◌≡◌, ◌⊎◌, ◌≤◌, ◌+◌, ◌++◌, ℕ, List, [], ◌∷◌, length, take, Some, slice_get}
use Rattle.fsfs_tree.specs.Revisions.{Revision}
use Rattle.fsfs_model.specs.Flat.Transactions.{Entry, IsNext}
use Rattle.fsfs_script.specs.declared.job_lines.job.CommitJob.{CommitJob}
use Rattle.fsfs_script.specs.declared.job_lines.job.Job.{Job}
use Rattle.fsfs_script.specs.declared.job_lines.job.Job.TheVariants.{Commit}
use Rattle.fsfs_jobs.specs.Serial.{last_name}
use Rattle.fsfs_jobs.specs.declared.answer.JobAnswer.{JobAnswer}
use Rattle.fsfs_machine.specs.declared.machine.Recorded.{Recorded}
use Rattle.fsfs_job_run.specs.Serial.Counts.{IfCounted, StopsOver}
use Rattle.fsfs_job_run.specs.Serial.Jobs.{DoesJob, Fails, IsEntryOf, NoneFails, IsSerialAt, own_of_all}

-- a job is done by the definition of jobs over the history; or it failed, and nothing was added
abbrev pub EndsJob : ℕ → List Revision → Job → JobAnswer → List Revision → Type 0
EndsJob moment h job answer now = DoesJob moment h job answer now ⊎ (Fails job answer × (now ≡ h))

-- JOBS ONE AFTER ANOTHER: each over the history that the one before left. A job is refused for mergeinfo only where the flat model says so, or counts
-- in the bytes of the revisions that there were then: those are the first of `seen`, which has all that there are at the end with their bytes.
abbrev pub EndJobs : ℕ → List Recorded → List Revision → List Job → List JobAnswer → List Revision → Type 0
EndJobs moment seen h [] [] now = now ≡ h
EndJobs moment seen h [] (answer ∷ answers) now = ⊥
EndJobs moment seen h (job ∷ js) [] now = ⊥
EndJobs moment seen h (job ∷ js) (answer ∷ answers) now =
    (between : List Revision) × EndsJob moment h job answer between × IfCounted job answer (StopsOver (take (length h) seen)) × EndJobs moment seen between js answers now

-- One of the jobs was to add this revision: it follows the history by the landing of that job's entry, which was made over a first part of it.
pub record IsOfJob (moment : ℕ) (js : List Job) (now : List Revision) (revision : Revision) : Type 0 where
  pub at : ℕ
  pub job : CommitJob
  pub is : slice_get js at ≡ Some (Commit job)
  pub before : List Revision
  pub rest : List Revision
  pub part : now ≡ before ++ rest
  pub entry : Entry
  pub made : IsEntryOf moment before job entry
  pub next : IsNext now entry revision

-- WHAT A SCRIPT DID to a history: its jobs were done one after another. The history grew by the revisions that their answers tell, and by
-- no others; and where none failed, and there were names for all, it is that of the serial run.
pub record DidScript (moment : ℕ) (seen : List Recorded) (js : List Job) (answers : List JobAnswer) (h now : List Revision) : Type 0 where
  pub jobs : EndJobs moment seen h js answers now
  pub more : List Revision
  pub grew : now ≡ h ++ more
  pub by : length more ≡ length (own_of_all answers)
  pub serial : NoneFails js answers → (t : ℕ) → t + length js ≤ last_name → (named : ℕ) × IsSerialAt moment h t js answers now named
