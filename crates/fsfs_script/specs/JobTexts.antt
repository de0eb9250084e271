-- How jobs are written: the one text of each, and which jobs may stand in a script, on which lines.
use Rattle.std.specs.Prelude.{◌≡◌, ℕ, ◌+◌, List, [], ◌∷◌, ◌++◌, length, Option, Some, None, codes, decimal}
use Rattle.fsfs_script.specs.JobLines.Texts.{CanAuthor, CanBase, CanEdit, CanPath, CanValue, edit_text, opening_text}
use Rattle.fsfs_script.specs.declared.job_lines.job.CommitJob.{CommitJob}
use Rattle.fsfs_script.specs.declared.job_lines.job.ReadJob.{ReadJob}
use Rattle.fsfs_script.specs.declared.job_lines.job.Step.{Step}
use Rattle.fsfs_script.specs.declared.job_lines.job.Job.{Job}
use Rattle.fsfs_script.specs.declared.job_lines.job.Job.TheVariants as jobs
use Rattle.fsfs_script.specs.declared.job_lines.lines.OpeningLine.TheVariants as openings
use Rattle.fsfs_script.specs.Places.{Place, newlines}

-- ---- texts

abbrev pub author_text : Option (List ℕ) → List ℕ
author_text None = []
author_text (Some name) = codes "author " ++ name ++ 10 ∷ []

abbrev pub log_text : Option (List ℕ) → List ℕ
log_text None = []
log_text (Some text) = codes "log " ++ decimal (length text) ++ 10 ∷ (text ++ 10 ∷ [])

abbrev pub steps_text : List Step → List ℕ
steps_text [] = []
steps_text (step ∷ steps) = edit_text step.edit ++ steps_text steps

-- the edits of a job, and its last line
abbrev pub ending_text : List Step → List ℕ
ending_text steps = steps_text steps ++ (codes "commit" ++ 10 ∷ [])

abbrev pub job_text : Job → List ℕ
job_text (jobs.Commit job) = opening_text (openings.Job job.base) ++ 10 ∷ (author_text job.author ++ (log_text job.log ++ ending_text job.steps))
job_text (jobs.Read job) = opening_text (openings.Read job.base job.path) ++ 10 ∷ []

-- ---- which jobs may stand in a script

abbrev pub CanName : Option (List ℕ) → Type 0
CanName None = Unit {0}
CanName (Some name) = CanAuthor name

-- edits that may stand one after another, the first of them on this line
abbrev pub CanSteps : ℕ → List Step → Type 0
CanSteps line [] = Unit {0}
CanSteps line (step ∷ steps) = (step.line ≡ line) × CanEdit step.edit × CanSteps (line + newlines (edit_text step.edit)) steps

-- the line on which the first edit stands, where this is the line of `job`
abbrev pub edits_line : ℕ → CommitJob → ℕ
edits_line line job = line + 1 + newlines (author_text job.author) + newlines (log_text job.log)

pub record CanCommit (line : ℕ) (job : CommitJob) : Type 0 where
  pub line_is : job.line ≡ line
  pub base : CanBase job.base
  pub author : CanName job.author
  pub log : CanValue job.log
  pub steps : CanSteps (edits_line line job) job.steps

pub record CanRead (line : ℕ) (job : ReadJob) : Type 0 where
  pub line_is : job.line ≡ line
  pub base : CanBase job.base
  pub path : CanPath job.path

abbrev pub CanJob : ℕ → Job → Type 0
CanJob line (jobs.Commit job) = CanCommit line job
CanJob line (jobs.Read job) = CanRead line job

-- ---- a text at a place

-- this text stands at a place, and the other place is behind it
pub record Stands (p : Place) (text : List ℕ) (after : Place) : Type 0 where
  pub bytes : p.bytes ≡ text ++ after.bytes
  pub line : after.line ≡ p.line + newlines text

-- a job as it is written
pub record IsWritten (p : Place) (job : Job) (after : Place) : Type 0 where
  pub can : CanJob p.line job
  pub stands : Stands p (job_text job) after
