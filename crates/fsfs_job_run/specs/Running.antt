-- What a job does over a repository that runs.
use Rattle.std.specs.Prelude.{◌≡◌, ◌<◌, ◌++◌, ℕ, zero, suc, List, [], true, None, Some}
use Rattle.fsfs_tree.specs.Dated.{last_of}
use Rattle.fsfs_machine.specs.Machine.{revisions}
use Rattle.fsfs_machine.specs.Kept.{IsIn}
use Rattle.fsfs_turn.specs.Alone.{BringsNoDoubt, are_harmless}
use Rattle.fsfs_turn.specs.Views.{View}
use Rattle.fsfs_script.specs.declared.job_lines.job.Base.{Base}
use Rattle.fsfs_script.specs.declared.job_lines.job.Base.TheVariants.{Number}
use Rattle.fsfs_script.specs.declared.job_lines.job.CommitJob.{CommitJob}
use Rattle.fsfs_script.specs.declared.job_lines.job.Job.{Job}
use Rattle.fsfs_script.specs.declared.job_lines.job.Job.TheVariants as jobs
use Rattle.fsfs_cli.specs.declared.faults.fault.Fault.{Fault}
use Rattle.fsfs_cli.specs.declared.faults.fault.Fault.TheVariants.{Request, Outside, Limit}
use Rattle.fsfs_cli.specs.declared.faults.limit_fault.LimitFault.TheVariants.{NamesFull}
use Rattle.fsfs_cli.specs.declared.faults.request_fault.RequestFault.TheVariants.{NoRev}
use Rattle.fsfs_cli.specs.declared.faults.outside_fault.OutsideFault.TheVariants as outside
use Rattle.fsfs_jobs.specs.declared.answer.JobAnswer.{JobAnswer}
use Rattle.fsfs_jobs.specs.declared.answer.JobAnswer.TheVariants.{Stopped}
pub use Rattle.fsfs_job_run.specs.Serial.Counts.{StopsOver, IfCounted}
use Rattle.fsfs_job_run.specs.Serial.Jobs.{RunsJob, RunJobs, StuckBehindDoubt}

-- Why the outside is told to have failed: the count rose, or the lock is stuck there. The failures of benches are counted apart. And why it is told
-- that no name is left: the pass has met the last number of a name.
abbrev pub HasOutsideCause : Type 0 → View → JobAnswer → Type 0
HasOutsideCause rose u (Stopped line (Outside outside.Mount)) = ⊥
HasOutsideCause rose u (Stopped line (Outside (outside.Disk at))) = rose
HasOutsideCause rose u (Stopped line (Outside outside.Read)) = ⊥
HasOutsideCause rose u (Stopped line (Outside outside.Write)) = ⊥
HasOutsideCause rose u (Stopped line (Outside outside.Bench)) = Unit {0}
HasOutsideCause rose u (Stopped line (Outside (outside.Stuck at))) = u.pass.stuck ≡ Some at
HasOutsideCause rose u (Stopped line (Limit NamesFull)) = u.full ≡ true
HasOutsideCause rose u answer = Unit {0}

-- DOES: behind the job the pass knows what the job did
abbrev pub DoesSo : (View → Type 0) → Type 0 → ℕ → Job → JobAnswer → View → Type 0
DoesSo knows rose moment job answer v = (u : View) × knows u × RunsJob moment job answer v u × HasOutsideCause rose u answer

-- The same of jobs one after another; behind the last the pass is in no section. From a pass on that met no fault which leaves a revision in
-- doubt, the lock is told to be stuck only behind one that tells of such a fault.
abbrev pub DoAll : (View → Type 0) → ℕ → List Job → List JobAnswer → View → Type 0
DoAll knows moment js answers v = (u : View) × knows u × (u.section ≡ None) × RunJobs moment js answers v u × (are_harmless v.pass.faults ≡ true → StuckBehindDoubt answers)

-- ---- counts of mergeinfo

-- a job that commits is done so, and tells why where it is refused for mergeinfo
abbrev pub CommitsSo : (View → Type 0) → Type 0 → ℕ → CommitJob → JobAnswer → View → Type 0
CommitsSo knows rose moment job answer v = DoesSo knows rose moment (jobs.Commit job) answer v × IfCounted (jobs.Commit job) answer (StopsOver v.seen)

-- no request was refused
abbrev pub IsNoRequest : JobAnswer → Type 0
IsNoRequest (Stopped line (Request why)) = ⊥
IsNoRequest answer = Unit {0}

-- ---- names

-- The pass knows the name before this number to be given, in no section. Of number 0 nothing is asked.
abbrev pub HasGiven : (View → Type 0) → ℕ → Type 0
HasGiven knows zero = Unit {0}
HasGiven knows (suc k) = (v : View) × knows v × (v.section ≡ None) × IsIn k v.given

-- ---- the base of a job

-- there is no such revision
abbrev pub LacksBase : Base → ℕ → Fault → Type 0
LacksBase base young fault = (n : ℕ) × (base ≡ Number n) × (young < n) × (fault ≡ Request (NoRev n young))

-- Nothing was added. The pass is in no section, and knows more names to be given.
pub record Stays (v u : View) : Type 0 where
  pub seen : u.seen ≡ v.seen
  pub since : u.since ≡ v.since
  pub opened : u.opened ≡ v.opened
  pub own : u.pass.mine ≡ v.pass.mine
  pub number : u.number ≡ v.number
  pub outside : u.section ≡ None
  pub more : List ℕ
  pub given : u.given ≡ more ++ v.given

-- the youngest revision was looked at
pub record HasLooked (v u : View) : Type 0 where
  pub stays : Stays v u
  pub doubtless : BringsNoDoubt v u
  pub left : u.left ≡ v.left
  pub least : u.pass.least ≡ last_of (revisions v.seen)
