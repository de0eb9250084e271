-- What jobs of a worker do to what its pass knows. Between its turns others add revisions.
use Rattle.std.specs.Prelude.{◌≡◌, ◌⊎◌, ◌-◌, ◌<◌, ◌≤◌, ◌++◌, max, ℕ, List, [], ◌∷◌, length, true, false, Option, Some, None, is_some}
use Rattle.fsfs_tree.specs.Histories.{IsHistory}
use Rattle.fsfs_tree.specs.Revisions.{Revision}
use Rattle.fsfs_machine.specs.declared.machine.Coming.{Coming}
use Rattle.fsfs_machine.specs.declared.machine.Recorded.{Recorded}
use Rattle.fsfs_machine.specs.Kept.{Follows}
use Rattle.fsfs_machine.specs.Machine.{revisions}
use Rattle.fsfs_turn.specs.Alone.{BringsNoDoubt}
use Rattle.fsfs_turn.specs.Views.{View, Begins}
use Rattle.fsfs_script.specs.declared.job_lines.job.Job.{Job}
use Rattle.fsfs_jobs.specs.declared.answer.JobAnswer.{JobAnswer}
use Rattle.fsfs_job_run.specs.Serial.Jobs.{own_of, tells_doubt, tells_full, tells_stuck}
use Rattle.fsfs_job_run.specs.Workers.Beside.{LineHolds, WasToAddTo, shown_in}

-- the last revision that a pass has seen or was told of
abbrev pub last_known : View → ℕ
last_known v = max v.pass.least (length v.seen - 1)

-- a history that goes on from what the pass has seen, and has all that it was told of
pub record IsOnward (v : View) (h : List Recorded) : Type 0 where
  pub begins : Begins h v.seen
  pub has : last_known v < length h

-- of each history that goes on from what the pass knows, and that this revision follows
abbrev pub OfFollowed : View → Coming → (List Revision → Type 0) → Type 0
OfFollowed u c P = (h : List Recorded) → IsOnward u h → IsHistory (revisions h) → Follows h c → P (revisions h)

-- what is left in doubt is what was, or the revision that the job was to add to the history, however it goes on
abbrev pub LeftBeside : ℕ → ℕ → Job → View → View → Type 0
LeftBeside moment k job v u = (u.left ≡ v.left) ⊎ ((c : Coming) × (u.left ≡ Some c) × OfFollowed u c (λ h. WasToAddTo moment h k job c.revision))

-- A JOB IS DONE beside others: its line holds of the history, however it goes on. The pass is in no section, its own revisions grew by the one that
-- the line tells, and no revision is left in doubt but where the line tells of that. Where it tells that the lock is stuck the pass has found it so,
-- which it never forgets; and where it tells that no name is left the pass has met the last number of a name.
pub record WorksJob (moment : ℕ) (job : Job) (answer : JobAnswer) (v u : View) : Type 0 where
  pub line : (h : List Recorded) → IsOnward u h → LineHolds moment h (last_known v) job answer
  pub grows : Begins u.seen v.seen
  pub later : last_known v ≤ last_known u
  pub shown : shown_in answer ≤ last_known u
  pub since : u.since ≡ v.since
  pub opened : u.opened ≡ v.opened
  pub own : u.pass.mine ≡ v.pass.mine ++ own_of answer
  pub outside : u.section ≡ None
  pub doubtless : tells_doubt answer ≡ false → BringsNoDoubt v u
  pub left : LeftBeside moment (last_known v) job v u
  pub stuck : tells_stuck answer ≡ true → is_some u.pass.stuck ≡ true
  pub names : tells_full answer ≡ true → u.full ≡ true
  pub still : is_some v.pass.stuck ≡ true → is_some u.pass.stuck ≡ true
  -- and one that met the last number of a name knows still that no name is left
  pub full : v.full ≡ true → u.full ≡ true

-- ITS JOBS, one after another
pub data WorkJobs (moment : ℕ) : List Job → List JobAnswer → View → View → Type 0 where
  End : (v : View) → WorkJobs moment [] [] v v
  More : (job : Job) (answer : JobAnswer) (js : List Job) (answers : List JobAnswer) (v m u : View) → WorksJob moment job answer v m → WorkJobs moment js answers m u
      → WorkJobs moment (job ∷ js) (answer ∷ answers) v u

-- behind them the pass knows this, and is in no section
abbrev pub WorkedSo : (View → Type 0) → ℕ → List Job → List JobAnswer → View → Type 0
WorkedSo knows moment js answers v = (u : View) × knows u × (u.section ≡ None) × WorkJobs moment js answers v u
