-- Whole scripts: jobs one after another, at most 4,096, up to the end or the first refusal; and how they are written.
use Rattle.std.specs.Prelude.{◌≡◌, ◌≤◌, ◌==◌, ◌-◌, ℕ, List, [], ◌∷◌, length}
use Rattle.std.specs.List.{AllByRecursion}
use Rattle.fsfs_script.specs.declared.job_lines.job.Job.{Job}
use Rattle.fsfs_script.specs.Places.{Place, behind_empty_lines}
use Rattle.fsfs_script.specs.Jobs.{HasJob, IsRefusedNext}
use Rattle.fsfs_script.specs.JobTexts.{Stands, IsWritten}
use Rattle.fsfs_script.specs.declared.script_error.ScriptError.{ScriptError}

-- the jobs from a place to the end, where so many may still come
abbrev pub HasJobs : ℕ → Place → List Job → Type 0
HasJobs room p [] = (behind_empty_lines p).bytes ≡ []
HasJobs room p (job ∷ jobs) = (after : Place) × HasJob (room == 0) (behind_empty_lines p) job after × HasJobs (room - 1) after jobs

-- jobs, and the refusal of what stands behind them
abbrev pub BreaksBehind : ℕ → Place → List Job → ScriptError → Type 0
BreaksBehind room p [] error = IsRefusedNext (room == 0) p error
BreaksBehind room p (job ∷ jobs) error = (after : Place) × HasJob (room == 0) (behind_empty_lines p) job after × BreaksBehind (room - 1) after jobs error

-- ---- a whole text

abbrev pub beginning : List ℕ → Place
beginning text = record { line = 1; bytes = text }

abbrev pub IsScript : List ℕ → List Job → Type 0
IsScript text jobs = HasJobs 4096 (beginning text) jobs

abbrev pub IsRefusedScript : List ℕ → ScriptError → Type 0
IsRefusedScript text error = (jobs : List Job) × BreaksBehind 4096 (beginning text) jobs error

-- ---- how it is written

-- empty lines alone
abbrev pub IsBlank : List ℕ → Type 0
IsBlank text = AllByRecursion (λ b. b ≡ 10) text

-- a job behind empty lines
pub record Spaced (p : Place) (job : Job) (after : Place) : Type 0 where
  pub blank : List ℕ
  pub is_blank : IsBlank blank
  pub start : Place
  pub behind : Stands p blank start
  pub written : IsWritten start job after

abbrev pub WritesJobs : Place → List Job → Type 0
WritesJobs p [] = IsBlank p.bytes
WritesJobs p (job ∷ jobs) = (after : Place) × Spaced p job after × WritesJobs after jobs

pub record IsWrittenScript (text : List ℕ) (jobs : List Job) : Type 0 where
  pub writes : WritesJobs (beginning text) jobs
  pub few : length jobs ≤ 4096
