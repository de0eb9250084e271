-- The laws of jobs beside each other.
use Rattle.std.specs.Prelude.{◌≡◌, ◌⊎◌, ◌<◌, ◌≤◌, ◌++◌, ℕ, List, [], ◌∷◌, length, true, false, Option, Some, is_some}
use Rattle.fsfs_tree.specs.Revisions.{Revision}
use Rattle.fsfs_tree.specs.Dated.{last_of}
use Rattle.fsfs_machine.specs.declared.machine.Coming.{Coming}
use Rattle.fsfs_machine.specs.declared.machine.Recorded.{Recorded}
use Rattle.fsfs_turn.specs.Views.{View, Begins}
use Rattle.fsfs_script.specs.declared.job_lines.job.Job.{Job}
use Rattle.fsfs_jobs.specs.Serial.{Runs, last_name}
use Rattle.fsfs_jobs.specs.declared.answer.JobAnswer.{JobAnswer}
use Rattle.fsfs_job_run.specs.Serial.Jobs.{own_of_all, tell_full}
use Rattle.fsfs_job_run.specs.Workers.Beside.{IsOfOne, RunsBeside, LineHolds}
use Rattle.fsfs_job_run.specs.Workers.Lines.{TellNoneStuck, WorkerLines}
use Rattle.fsfs_job_run.specs.Workers.Passes.{last_known, IsOnward, OfFollowed, WorksJob, WorkJobs}

-- a line that holds of a history holds of each that goes on from it, and of a worker that knew less
abbrev pub LinesStay : Type 0
LinesStay = (moment : ℕ) (h later : List Recorded) (k less : ℕ) (job : Job) (answer : JobAnswer) → Begins later h → less ≤ k → LineHolds moment h k job answer → LineHolds moment later less job answer

abbrev pub WorkersLinesStay : Type 0
WorkersLinesStay = (moment : ℕ) (h later : List Recorded) (k less : ℕ) (js : List Job) (answers : List JobAnswer) → Begins later h → less ≤ k → WorkerLines moment h k js answers → WorkerLines moment later less js answers

-- where nobody else adds a revision, a job does what it does alone
abbrev pub AloneIsBeside : Type 0
AloneIsBeside = (h : List Revision) (date : List ℕ) (t k : ℕ) (job : Job) (answer : JobAnswer) (now : List Revision) (named : ℕ) → t < last_name → k ≤ last_of h → Runs h date t job answer now named → RunsBeside h date k job answer now

-- a worker's jobs and one job more
abbrev pub WorkGoesOn : Type 0
WorkGoesOn = (moment : ℕ) (js : List Job) (answers : List JobAnswer) (job : Job) (answer : JobAnswer) (v m u : View) → WorkJobs moment js answers v m → WorksJob moment job answer m u
    → WorkJobs moment (js ++ job ∷ []) (answers ++ answer ∷ []) v u

-- what a worker's jobs come to
pub record Worked (moment : ℕ) (js : List Job) (answers : List JobAnswer) (v u : View) : Type 0 where
  -- there is an answer to each job
  pub each : length answers ≡ length js
  -- its lines hold of the history, however it goes on
  pub lines : (h : List Recorded) → IsOnward u h → WorkerLines moment h (last_known v) js answers
  pub begins : Begins u.seen v.seen
  pub later : last_known v ≤ last_known u
  -- the pass's own revisions are those that its lines tell
  pub own : u.pass.mine ≡ v.pass.mine ++ own_of_all answers
  -- what is left in doubt is what was, or a revision that one of them was to add
  pub left : (u.left ≡ v.left) ⊎ ((c : Coming) × (u.left ≡ Some c) × OfFollowed u c (λ h. IsOfOne moment h (last_known v) js c.revision))
  -- none of them tells that the lock is stuck, where the pass has not found it so
  pub stuck : is_some u.pass.stuck ≡ false → TellNoneStuck answers
  -- nor that no name is left, where it has not met the last number of a name
  pub names : tell_full answers ≡ true → u.full ≡ true
  pub still : is_some v.pass.stuck ≡ true → is_some u.pass.stuck ≡ true
  -- and one that met the last number of a name knows still that no name is left
  pub full : v.full ≡ true → u.full ≡ true

abbrev pub WorkersWorked : Type 0
WorkersWorked = (moment : ℕ) (js : List Job) (answers : List JobAnswer) (v u : View) → WorkJobs moment js answers v u → Worked moment js answers v u
