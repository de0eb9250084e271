-- The lines of jobs that workers did beside each other.
use Rattle.std.specs.Prelude.{◌≡◌, ◌+◌, ◌-◌, ◌^◌, ◌<◌, ◌≤◌, if◌then◌else◌, ℕ, zero, suc, List, [], ◌∷◌, length, max, min, Bool, true, false}
use Rattle.fsfs_tree.specs.Revisions.{Revision}
use Rattle.fsfs_tree.specs.Dated.{last_of}
use Rattle.fsfs_machine.specs.declared.machine.Recorded.{Recorded}
use Rattle.fsfs_machine.specs.Machine.{revisions}
use Rattle.fsfs_machine.specs.Kept.{IsIn, AreOnce}
pub use Rattle.fsfs_turn.specs.Mountings.{RoseBy}
use Rattle.fsfs_script.specs.declared.job_lines.job.Job.{Job}
use Rattle.fsfs_cli.specs.declared.faults.fault.Fault.TheVariants.{Outside}
use Rattle.fsfs_cli.specs.declared.faults.outside_fault.OutsideFault.TheVariants.{Disk}
use Rattle.fsfs_jobs.specs.declared.answer.JobAnswer.{JobAnswer}
use Rattle.fsfs_jobs.specs.declared.answer.JobAnswer.TheVariants.{Stopped}
use Rattle.fsfs_job_run.specs.Serial.Jobs.{TellNoDoubt, tells_stuck, own_of_all}
use Rattle.fsfs_job_run.specs.Workers.Beside.{GoesOnFrom, LineHolds, shown_in}

-- ---- one worker

-- THE LINES OF ONE WORKER, as it did its jobs one after another: as each began it knew revision k, and all that its earlier lines show.
abbrev pub WorkerLines : ℕ → List Recorded → ℕ → List Job → List JobAnswer → Type 0
WorkerLines moment h k [] [] = Unit {0}
WorkerLines moment h k [] (answer ∷ answers) = ⊥
WorkerLines moment h k (job ∷ js) [] = ⊥
WorkerLines moment h k (job ∷ js) (answer ∷ answers) = LineHolds moment h k job answer × WorkerLines moment h (max k (shown_in answer)) js answers

-- ---- several

-- What one of n workers gets of things that are dealt out to them in turn, w others before it: each n-th, behind the first w.
abbrev pub dealt : {X : Type 0} → ℕ → ℕ → List X → List X
dealt n w [] = []
dealt n zero (x ∷ xs) = x ∷ dealt n (n - 1) xs
dealt n (suc w) (x ∷ xs) = dealt n w xs

-- THE LINES OF A RUN, in the order of its input, of jobs that were dealt out to workers: h is the history at the opening, and `now` the one that
-- came of it, with the bytes beside each revision.
pub record JobLines (moment workers : ℕ) (js : List Job) (answers : List JobAnswer) (h : List Revision) (now : List Recorded) : Type 0 where
  -- a line for each job
  pub each : length answers ≡ length js
  -- the history grew
  pub grew : GoesOnFrom h (revisions now)
  -- the lines of each worker hold of it; as it began it knew the last revision that there was at the opening
  pub lines : (w : ℕ) → w < workers → WorkerLines moment now (last_of h) (dealt workers w js) (dealt workers w answers)
  -- each revision since the opening is that of a job, whose line tells it, and no line tells that of another
  pub told : (r : ℕ) → length h ≤ r → r < length now → IsIn r (own_of_all answers)
  pub once : AreOnce (own_of_all answers)

-- ---- faults

-- it tells that a call of the disk failed
abbrev pub tells_disk : JobAnswer → Bool
tells_disk (Stopped line (Outside (Disk at))) = true
tells_disk answer = false

-- so many do
abbrev pub disk_faults_in : List JobAnswer → ℕ
disk_faults_in [] = 0
disk_faults_in (answer ∷ answers) = (if tells_disk answer then 1 else 0) + disk_faults_in answers

-- none of these tells that the lock is stuck
abbrev pub TellNoneStuck : List JobAnswer → Type 0
TellNoneStuck [] = Unit {0}
TellNoneStuck (answer ∷ answers) = (tells_stuck answer ≡ false) × TellNoneStuck answers

-- a line tells that the lock is stuck only where one tells of the fault that left it so, whichever worker's it is
abbrev pub StuckByDoubt : List JobAnswer → Type 0
StuckByDoubt answers = TellNoDoubt answers → TellNoneStuck answers
