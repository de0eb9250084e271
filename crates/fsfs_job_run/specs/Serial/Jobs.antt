-- What a job does to what the pass of a repository knows, and jobs one after another.
use Rattle.std.specs.Prelude.{◌≡◌, ◌⊎◌, ◌≤◌, ◌<◌, ◌+◌, ◌++◌, ◌||◌, ℕ, List, [], ◌∷◌, length, Bool, true, false, Option, Some, None}
use Rattle.std.specs.FinMap.{get}
use Rattle.fsfs_base.specs.Paths.{Path}
use Rattle.fsfs_base.specs.Fields.Dates.{IsDateAt}
use Rattle.fsfs_base.specs.declared.places.place.DiskPlace.{DiskPlace}
use Rattle.fsfs_tree.specs.Dated.{last_of}
use Rattle.fsfs_tree.specs.Histories.{IsHistory}
use Rattle.fsfs_tree.specs.Revisions.{Revision, tree_of}
use Rattle.fsfs_model.specs.Flat.Transactions.{Entry, IsNext}
use Rattle.fsfs_machine.specs.declared.machine.Coming.{Coming}
use Rattle.fsfs_machine.specs.declared.machine.Recorded.{Recorded}
use Rattle.fsfs_machine.specs.Kept.{Follows}
use Rattle.fsfs_machine.specs.Machine.{revisions}
use Rattle.fsfs_turn.specs.Alone.{BringsNoDoubt}
use Rattle.fsfs_turn.specs.Views.{View, Begins}
use Rattle.fsfs_repo.specs.Replies.{brings_doubt}
use Rattle.fsfs_script.specs.declared.job_lines.job.CommitJob.{CommitJob}
use Rattle.fsfs_script.specs.declared.job_lines.job.Job.{Job}
use Rattle.fsfs_script.specs.declared.job_lines.job.Job.TheVariants as jobs
use Rattle.fsfs_cli.specs.declared.faults.fault.Fault.TheVariants.{Request, Outside, Memory, Limit}
use Rattle.fsfs_cli.specs.declared.faults.limit_fault.LimitFault.TheVariants.{NamesFull}
use Rattle.fsfs_cli.specs.declared.faults.outside_fault.OutsideFault.TheVariants.{Disk, Bench, Stuck}
use Rattle.fsfs_cli.specs.declared.faults.request_fault.RequestFault.TheVariants.{Mergeinfo}
use Rattle.fsfs_jobs.specs.Edits.{TakesSteps}
use Rattle.fsfs_jobs.specs.Properties.{job_properties}
use Rattle.fsfs_jobs.specs.Serial.{Runs, base_of, last_name}
use Rattle.fsfs_jobs.specs.declared.answer.JobAnswer.{JobAnswer}
use Rattle.fsfs_jobs.specs.declared.answer.JobAnswer.TheVariants.{Committed, Read, Conflict, Stopped}
use Rattle.fsfs_job_run.specs.Serial.Counts.{IfCounted, StopsOver}

-- a fact, where the answer tells a revision
abbrev pub IfAdded : JobAnswer → Type 0 → Type 0
IfAdded (Committed rev) P = P
IfAdded (Read text) P = Unit {0}
IfAdded (Conflict head path) P = Unit {0}
IfAdded (Stopped line fault) P = Unit {0}

-- The job is done over the history by the definition of jobs, with a date of the moment (in microseconds after 1970-01-01T00:00:00 UTC) where
-- it adds a revision, whatever number below the last is in `txn-current`. At most one name is given.
abbrev pub DoesJob : ℕ → List Revision → Job → JobAnswer → List Revision → Type 0
DoesJob moment h job answer now =
    (date : List ℕ) × IfAdded answer (IsDateAt moment date) × ((t : ℕ) → t < last_name → (named : ℕ) × (named ≤ t + 1) × Runs h date t job answer now named)

-- What that definition does not decide: a call of the disk or of a bench failed, the lock is stuck, or memory was wanting; and of a job that
-- commits: no name was left, or counts of mergeinfo would have to change. (Why it was refused for these: `StopsOver`; and for names, where one
-- worker does the jobs: `full` of `Ran`.)
pub data Fails : Job → JobAnswer → Type 0 where
  ByDisk : (job : Job) (line : ℕ) (at : DiskPlace) → Fails job (Stopped line (Outside (Disk at)))
  ByBench : (job : Job) (line : ℕ) → Fails job (Stopped line (Outside Bench))
  ByStuck : (job : Job) (line : ℕ) (at : DiskPlace) → Fails job (Stopped line (Outside (Stuck at)))
  ByMemory : (job : Job) (line : ℕ) → Fails job (Stopped line Memory)
  ByNames : (job : CommitJob) (line : ℕ) → Fails (jobs.Commit job) (Stopped line (Limit NamesFull))
  ByCounts : (job : CommitJob) (line : ℕ) (path : Path) → Fails (jobs.Commit job) (Stopped line (Request (Mergeinfo path)))

-- what was added, with the bytes beside it: the revision that the answer tells, or nothing
abbrev pub AddsBy : JobAnswer → List Recorded → List Recorded → Type 0
AddsBy (Committed rev) h now = (next : Recorded) × (now ≡ h ++ next ∷ []) × (rev ≡ length h)
AddsBy (Read text) h now = now ≡ h
AddsBy (Conflict head path) h now = now ≡ h
AddsBy (Stopped line fault) h now = now ≡ h

-- the revision that the answer tells, as the pass's own
abbrev pub own_of : JobAnswer → List ℕ
own_of (Committed rev) = rev ∷ []
own_of (Read text) = []
own_of (Conflict head path) = []
own_of (Stopped line fault) = []

-- it tells of a fault that leaves a revision in doubt
abbrev pub tells_doubt : JobAnswer → Bool
tells_doubt (Stopped line (Outside (Disk at))) = brings_doubt at
tells_doubt answer = false

-- What an answer leaves: the pass is in no section, and has seen what it had seen and what the answer tells, which is its own; it knows more names
-- to be given. Images are spoken of since the same moment, at which there were as many revisions. No revision is left in doubt but where the
-- answer tells of that.
pub record Leaves (answer : JobAnswer) (v u : View) : Type 0 where
  pub adds : AddsBy answer v.seen u.seen
  pub since : u.since ≡ v.since
  pub opened : u.opened ≡ v.opened
  pub own : u.pass.mine ≡ v.pass.mine ++ own_of answer
  pub number : u.number ≡ v.number
  pub outside : u.section ≡ None
  pub more : List ℕ
  pub given : u.given ≡ more ++ v.given
  pub doubtless : tells_doubt answer ≡ false → BringsNoDoubt v u

-- The entry of the job over this history: a transaction on the job's base in which its edits were done one by one, with the job's properties and a
-- date of the moment.
pub record IsEntryOf (moment : ℕ) (h : List Revision) (job : CommitJob) (e : Entry) : Type 0 where
  pub within : base_of job.base (last_of h) ≤ last_of h
  pub on : e.base ≡ base_of job.base (last_of h)
  pub takes : TakesSteps (tree_of h) (last_of h) (tree_of h (base_of job.base (last_of h))) [] job.steps (get e.tree) e.marks
  pub date : List ℕ
  pub dated : IsDateAt moment date
  pub properties : e.properties ≡ job_properties date job

-- The job was to add this revision, by its entry over the history h: it follows by that entry each history that goes on from what was seen and that it
-- follows at all.
pub record WasToAdd (moment : ℕ) (h : List Revision) (job : Job) (seen : List Recorded) (c : Coming) : Type 0 where
  pub commit : CommitJob
  pub is : job ≡ jobs.Commit commit
  pub entry : Entry
  pub made : IsEntryOf moment h commit entry
  pub lands : (g : List Recorded) → Begins g seen → IsHistory (revisions g) → Follows g c → IsNext (revisions g) entry c.revision

-- what is left in doubt is what was, or the revision that the job was to add
abbrev pub LeftBy : ℕ → Job → View → View → Type 0
LeftBy moment job v u = (u.left ≡ v.left) ⊎ ((c : Coming) × (u.left ≡ Some c) × WasToAdd moment (revisions v.seen) job u.seen c)

-- A JOB IS DONE over all that the pass has seen, where that is all that there is: by the definition of jobs, or it failed.
pub record RunsJob (moment : ℕ) (job : Job) (answer : JobAnswer) (v u : View) : Type 0 where
  pub done : DoesJob moment (revisions v.seen) job answer (revisions u.seen) ⊎ Fails job answer
  pub leaves : Leaves answer v u
  pub left : LeftBy moment job v u

-- JOBS ONE AFTER ANOTHER. One that is refused for mergeinfo is so by the flat model, or for counts in the bytes that the pass had seen.
pub data RunJobs (moment : ℕ) : List Job → List JobAnswer → View → View → Type 0 where
  End : (v : View) → RunJobs moment [] [] v v
  More : (job : Job) (answer : JobAnswer) (js : List Job) (answers : List JobAnswer) (v m u : View) → RunsJob moment job answer v m → IfCounted job answer (StopsOver v.seen) → RunJobs moment js answers m u
      → RunJobs moment (job ∷ js) (answer ∷ answers) v u

-- none of these failed
abbrev pub NoneFails : List Job → List JobAnswer → Type 0
NoneFails [] answers = Unit {0}
NoneFails (job ∷ js) [] = Unit {0}
NoneFails (job ∷ js) (answer ∷ answers) = (Fails job answer → ⊥) × NoneFails js answers

-- THE SERIAL RUN: each job over the history that the one before left, and the number of names given; each revision has a date of the moment
abbrev pub IsSerialAt : ℕ → List Revision → ℕ → List Job → List JobAnswer → List Revision → ℕ → Type 0
IsSerialAt moment h t [] [] now named = (now ≡ h) × (named ≡ t)
IsSerialAt moment h t [] (answer ∷ answers) now named = ⊥
IsSerialAt moment h t (job ∷ js) [] now named = ⊥
IsSerialAt moment h t (job ∷ js) (answer ∷ answers) now named =
    (date : List ℕ) × IfAdded answer (IsDateAt moment date) × ((between : List Revision) × (drawn : ℕ) × Runs h date t job answer between drawn × IsSerialAt moment between drawn js answers now named)

-- whether it tells that a bench failed, as a count
abbrev pub bench_told : JobAnswer → ℕ
bench_told (Stopped line (Outside Bench)) = 1
bench_told answer = 0

-- so many of these do
abbrev pub bench_faults_in : List JobAnswer → ℕ
bench_faults_in [] = 0
bench_faults_in (answer ∷ answers) = bench_told answer + bench_faults_in answers

-- none of these tells of a fault that leaves a revision in doubt
abbrev pub TellNoDoubt : List JobAnswer → Type 0
TellNoDoubt [] = Unit {0}
TellNoDoubt (answer ∷ answers) = (tells_doubt answer ≡ false) × TellNoDoubt answers

-- it tells that no name is left for a transaction
abbrev pub tells_full : JobAnswer → Bool
tells_full (Stopped line (Limit NamesFull)) = true
tells_full answer = false

-- one of these does
abbrev pub tell_full : List JobAnswer → Bool
tell_full [] = false
tell_full (answer ∷ answers) = tells_full answer || tell_full answers

-- it tells that the lock is stuck
abbrev pub tells_stuck : JobAnswer → Bool
tells_stuck (Stopped line (Outside (Stuck at))) = true
tells_stuck answer = false

-- it is told to be stuck only behind an answer that tells of a fault that leaves a revision in doubt
abbrev pub StuckBehindDoubt : List JobAnswer → Type 0
StuckBehindDoubt [] = Unit {0}
StuckBehindDoubt (answer ∷ answers) = (tells_stuck answer ≡ false) × (tells_doubt answer ≡ false → StuckBehindDoubt answers)

-- the revisions that these tell
abbrev pub own_of_all : List JobAnswer → List ℕ
own_of_all [] = []
own_of_all (answer ∷ answers) = own_of answer ++ own_of_all answers
