-- Laws of scripts: what a place answers is decided, and jobs are read just as they are written.
use Rattle.std.specs.Prelude.{◌≡◌, ℕ, List, [], Option, Some, None, Result, Ok, Err, Bool, false}
use Rattle.fsfs_script.specs.declared.job_lines.job.Job.{Job}
use Rattle.fsfs_script.specs.Places.{Place, behind_empty_lines}
use Rattle.fsfs_script.specs.Jobs.{HasJob, IsRefusedNext}
use Rattle.fsfs_script.specs.JobTexts.{IsWritten}
use Rattle.fsfs_script.specs.Scripts.{IsScript, IsRefusedScript, IsWrittenScript}
use Rattle.fsfs_script.specs.declared.script_error.ScriptError.{ScriptError}

-- what a place of a script answers: its next job and the place behind that, that there is none, or the first refusal
abbrev pub IsAnswer : Bool → Place → Result (Option (Job × Place)) ScriptError → Type 0
IsAnswer is_full p (Ok None) = (behind_empty_lines p).bytes ≡ []
IsAnswer is_full p (Ok (Some next)) = HasJob is_full (behind_empty_lines p) next.0 next.1
IsAnswer is_full p (Err error) = IsRefusedNext is_full p error

-- one answer at most
abbrev pub AnswersAreDecided : Type 0
AnswersAreDecided = (is_full : Bool) (p : Place) (r s : Result (Option (Job × Place)) ScriptError) → IsAnswer is_full p r → IsAnswer is_full p s → r ≡ s

-- a job that is read was written so; where a script is full none is read
abbrev pub JobsWereWritten : Type 0
JobsWereWritten = (is_full : Bool) (p : Place) (job : Job) (after : Place) → HasJob is_full p job after → (is_full ≡ false) × IsWritten p job after

-- a job that is written is read
abbrev pub JobsAreRead : Type 0
JobsAreRead = (p : Place) (job : Job) (after : Place) → IsWritten p job after → HasJob false p job after

-- where a job is refused, none is written
abbrev pub NoneIsRefused : Type 0
NoneIsRefused = (p : Place) (error : ScriptError) (job : Job) (after : Place) → IsRefusedNext false p error → IsWritten (behind_empty_lines p) job after → ⊥

-- ---- whole scripts

-- what a text comes to: its jobs, or the first refusal
abbrev pub IsOutcome : List ℕ → Result (List Job) ScriptError → Type 0
IsOutcome text (Ok jobs) = IsScript text jobs
IsOutcome text (Err error) = IsRefusedScript text error

-- one outcome at most
abbrev pub ScriptsAreDecided : Type 0
ScriptsAreDecided = (text : List ℕ) (r s : Result (List Job) ScriptError) → IsOutcome text r → IsOutcome text s → r ≡ s

-- a script is read just where it is written
pub record ScriptsAsWritten : Type 0 where
  pub was_written : (text : List ℕ) (jobs : List Job) → IsScript text jobs → IsWrittenScript text jobs
  pub is_read : (text : List ℕ) (jobs : List Job) → IsWrittenScript text jobs → IsScript text jobs
