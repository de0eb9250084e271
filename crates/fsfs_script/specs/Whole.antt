-- What reading a whole script answers.
use Rattle.std.specs.Prelude.{◌≡◌, ℕ, List, [], Option, Some, None, Result, Ok, Err}
use Rattle.fsfs_script.specs.declared.job_lines.job.Job.{Job}
use Rattle.fsfs_script.specs.Jobs.{IsError}
use Rattle.fsfs_script.specs.Laws.{IsOutcome}
use Rattle.fsfs_script.specs.declared.script_error.ScriptError.{ScriptError}

-- what the text of a source that tells it comes to; the source may fail and memory may run out anywhere
abbrev pub ReadsScript : Option (List ℕ) → Result (List Job) ScriptError → Type 0
ReadsScript None result = Unit {0}
ReadsScript (Some text) (Ok jobs) = IsOutcome text (Ok jobs)
ReadsScript (Some text) (Err error) = IsError (λ e. IsOutcome text (Err e)) error

-- such a source has nothing left
abbrev pub EndsSource : Option (List ℕ) → Option (List ℕ) → Type 0
EndsSource None new = Unit {0}
EndsSource (Some text) new = new ≡ Some []
