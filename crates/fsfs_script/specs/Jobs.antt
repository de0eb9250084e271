-- Whole jobs: commands one after another from `job` to `commit`; and where the first is refused.
use Rattle.std.specs.Prelude.{◌≡◌, ◌⊎◌, ℕ, ◌-◌, ◌<◌, List, [], ◌∷◌, ◌++◌, length, Option, Some, None, Result, Ok, Err, Bool}
use Rattle.fsfs_script.specs.declared.job_lines.job.Base.{Base}
use Rattle.fsfs_script.specs.declared.job_lines.job.CommitJob.{CommitJob}
use Rattle.fsfs_script.specs.declared.job_lines.job.ReadJob.{ReadJob}
use Rattle.fsfs_script.specs.declared.job_lines.job.Job.{Job}
use Rattle.fsfs_script.specs.declared.job_lines.job.Job.TheVariants as jobs
use Rattle.fsfs_script.specs.declared.job_lines.lines.OpeningLine.{OpeningLine}
use Rattle.fsfs_script.specs.declared.job_lines.lines.OpeningLine.TheVariants as openings
use Rattle.fsfs_script.specs.declared.job_lines.refusal.Refusal.{Refusal}
use Rattle.fsfs_script.specs.declared.job_lines.verbs.Stage.{Stage}
use Rattle.fsfs_script.specs.declared.job_lines.verbs.Stage.TheVariants.{AfterJob, AfterAuthor, InEdits}
use Rattle.fsfs_script.specs.Places.{Place, behind_empty_lines}
use Rattle.fsfs_script.specs.Errors.{error_at}
use Rattle.fsfs_script.specs.Commands.{opening_at, next_at}
use Rattle.fsfs_script.specs.declared.commands.Command.{Command}
use Rattle.fsfs_script.specs.declared.commands.Command.TheVariants as commands
use Rattle.fsfs_script.specs.declared.commands.Next.TheVariants as next
use Rattle.fsfs_script.specs.declared.script_error.ScriptError.{ScriptError}
use Rattle.fsfs_script.specs.declared.script_error.ScriptError.TheVariants as errors

-- a job of which the first line was read
abbrev pub start : ℕ → Base → CommitJob
start line base = record { line = line; base = base; author = None; log = None; steps = [] }

-- how far a command brings a job, and what it adds to it; the command began on this line
abbrev pub stage_after : Command → Stage
stage_after (commands.Author name) = AfterAuthor
stage_after (commands.Log text) = InEdits
stage_after (commands.Edit edit) = InEdits

abbrev pub with_command : ℕ → Command → CommitJob → CommitJob
with_command line (commands.Author name) job = record job { author = Some name }
with_command line (commands.Log text) job = record job { log = Some text }
with_command line (commands.Edit edit) job = record job { steps = job.steps ++ record { line = line; edit = edit } ∷ [] }

-- a job that has come to a stage, and the place at which its next command begins
pub record Draft : Type 0 where
  pub stage : Stage
  pub job : CommitJob
  pub place : Place

abbrev pub behind : Command → Place → Draft → Draft
behind c after d = record { stage = stage_after c; job = with_command d.place.line c d.job; place = after }

-- these commands stand one after another, from one draft to another
abbrev pub Takes : Draft → List Command → Draft → Type 0
Takes d [] e = e ≡ d
Takes d (c ∷ cs) e = (after : Place) × (next_at d.stage d.place ≡ Ok (next.Command c, after)) × Takes (behind c after d) cs e

abbrev pub drafted : CommitJob → Place → Draft
drafted job place = record { stage = AfterJob; job = job; place = place }

-- commands, and `commit` behind them
pub record Ends (from : Draft) (job : CommitJob) (after : Place) : Type 0 where
  pub taken : List Command
  pub draft : Draft
  pub takes : Takes from taken draft
  pub commit : next_at draft.stage draft.place ≡ Ok (next.Commit, after)
  pub job_is : job ≡ draft.job

-- commands, and one behind them that is refused, on the line where it began
pub record Breaks (from : Draft) (error : ScriptError) : Type 0 where
  pub taken : List Command
  pub draft : Draft
  pub takes : Takes from taken draft
  pub refusal : Refusal
  pub refused : next_at draft.stage draft.place ≡ Err refusal
  pub error_is : error ≡ error_at draft.place.line refusal

-- an error is that of a refusal; the source may fail and memory may run out anywhere
abbrev pub IsError : (ScriptError → Type 0) → ScriptError → Type 0
IsError P (errors.BadScript bad) = P (errors.BadScript bad)
IsError P errors.TextTooLong = P errors.TextTooLong
IsError P errors.PropTooLong = P errors.PropTooLong
IsError P errors.TooManyJobs = P errors.TooManyJobs
IsError P errors.ReadFault = Unit {0}
IsError P errors.OutOfMemory = Unit {0}

-- ---- a job

-- the job that begins at a place, and the place behind it; where it is full, none may begin
pub record HasCommitJob (is_full : Bool) (p : Place) (job : CommitJob) (after : Place) : Type 0 where
  pub base : Base
  pub opened : Place
  pub opening : opening_at is_full p ≡ Ok (openings.Job base, opened)
  pub ends : Ends (drafted (start p.line base) opened) job after

pub record HasReadJob (is_full : Bool) (p : Place) (job : ReadJob) (after : Place) : Type 0 where
  pub opening : opening_at is_full p ≡ Ok (openings.Read job.base job.path, after)
  pub line_is : job.line ≡ p.line

abbrev pub HasJob : Bool → Place → Job → Place → Type 0
HasJob is_full p (jobs.Commit job) after = HasCommitJob is_full p job after
HasJob is_full p (jobs.Read job) after = HasReadJob is_full p job after

-- the first line of a job is refused
pub record IsBadOpening (is_full : Bool) (p : Place) (error : ScriptError) : Type 0 where
  pub refusal : Refusal
  pub refused : opening_at is_full p ≡ Err refusal
  pub error_is : error ≡ error_at p.line refusal

-- or a command inside it
pub record HasBadCommand (is_full : Bool) (p : Place) (error : ScriptError) : Type 0 where
  pub base : Base
  pub opened : Place
  pub opening : opening_at is_full p ≡ Ok (openings.Job base, opened)
  pub breaks : Breaks (drafted (start p.line base) opened) error

abbrev pub IsRefusedJob : Bool → Place → ScriptError → Type 0
IsRefusedJob is_full p error = IsBadOpening is_full p error ⊎ HasBadCommand is_full p error

-- ---- what functions read

-- the commands of a job
abbrev pub FillsJob : Option Place → Option Place → CommitJob → CommitJob → Result (Unit {0}) ScriptError → Type 0
FillsJob None new from job result = Unit {0}
FillsJob (Some p) new from job (Ok done) = (after : Place) × Ends (drafted from p) job after × (new ≡ Some after)
FillsJob (Some p) new from job (Err error) = IsError (Breaks (drafted from p)) error

abbrev pub Opens : Bool → Option Place → Option Place → Result OpeningLine ScriptError → Type 0
Opens is_full None new result = Unit {0}
Opens is_full (Some p) new (Ok line) = (after : Place) × (opening_at is_full p ≡ Ok (line, after)) × (new ≡ Some after)
Opens is_full (Some p) new (Err error) = IsError (IsBadOpening is_full p) error

abbrev pub ReadsJob : Bool → Option Place → Option Place → Result Job ScriptError → Type 0
ReadsJob is_full None new result = Unit {0}
ReadsJob is_full (Some p) new (Ok job) = (after : Place) × HasJob is_full p job after × (new ≡ Some after)
ReadsJob is_full (Some p) new (Err error) = IsError (IsRefusedJob is_full p) error

-- a job is refused behind empty lines, where more than these is left
pub record IsRefusedNext (is_full : Bool) (p : Place) (error : ScriptError) : Type 0 where
  pub some : 0 < length (behind_empty_lines p).bytes
  pub refused : IsRefusedJob is_full (behind_empty_lines p) error

-- the next job behind empty lines; none where only these are left, and then none again
abbrev pub ReadsNext : Bool → Option Place → Option Place → Result (Option Job) ScriptError → Type 0
ReadsNext is_full None new result = Unit {0}
ReadsNext is_full (Some p) new (Ok None) = ((behind_empty_lines p).bytes ≡ []) × (new ≡ Some (behind_empty_lines p))
ReadsNext is_full (Some p) new (Ok (Some job)) = (after : Place) × HasJob is_full (behind_empty_lines p) job after × (new ≡ Some after)
ReadsNext is_full (Some p) new (Err error) = IsError (IsRefusedNext is_full p) error

-- how many jobs may come behind one
abbrev pub room_after : Option Job → ℕ → ℕ
room_after None room = room
room_after (Some job) room = room - 1
