-- A job as it begins, beside others: the youngest revision is looked at, and the base may not be there.
use Rattle.std.proofs.Common.{◌≡◌, ◌≤◌, ◌<◌, ◌+◌, ℕ, List, length, take, refl, sym, ap, subst, ◌∙◌, inl, arith}
use Rattle.std.specs.Prelude.{None}
use Rattle.fsfs_machine.specs.declared.machine.Recorded.{Recorded}
use Rattle.fsfs_machine.specs.Machine.{revisions}
use Rattle.fsfs_turn.specs.Views.{View, Looked}
use Rattle.fsfs_turn.proofs.Moments.{begins_take}
use Rattle.fsfs_cli.specs.declared.faults.fault.Fault.{Fault}
use Rattle.fsfs_cli.specs.declared.faults.fault.Fault.TheVariants.{Request}
use Rattle.fsfs_cli.specs.declared.faults.request_fault.RequestFault.TheVariants.{NoRev}
use Rattle.fsfs_script.specs.declared.job_lines.job.CommitJob.{CommitJob}
use Rattle.fsfs_script.specs.declared.job_lines.job.ReadJob.{ReadJob}
use Rattle.fsfs_script.specs.declared.job_lines.job.Job.{Job}
use Rattle.fsfs_script.specs.declared.job_lines.job.Job.TheVariants as jobs
use Rattle.fsfs_jobs.specs.declared.answer.JobAnswer.{JobAnswer}
use Rattle.fsfs_jobs.specs.declared.answer.JobAnswer.TheVariants.{Stopped}
use Rattle.fsfs_job_run.specs.Workers.Beside.{IsDone}
use Rattle.fsfs_job_run.specs.Workers.Passes.{IsOnward, last_known}
use Rattle.fsfs_job_run.specs.Running.{LacksBase}
use Rattle.fsfs_workers.specs.Working.{EndsFrom, WorksSo}
use Rattle.fsfs_workers.proofs.Going.{by_look, ends_so, works_all}
use Rattle.fsfs_workers.proofs.Lines.{lacks_line, lacks_read_line}
use Rattle.fsfs_workers.proofs.Parts.{part_length}

-- ---- the youngest revision

-- as the job began the pass knew no younger one
pub looked_last : (young : ℕ) (v u : View) → Looked young v u → last_known v ≤ young
looked_last young v u l = omega (arith, l.least, l.seen)

-- and that is the one that it was told of
pub looked_told : (young : ℕ) (v u : View) → Looked young v u → u.pass.least ≡ young
looked_told young v u l = ap {A = View} (λ z. z.pass.least) l.is

pub looked_outside : (young : ℕ) (v u : View) → v.section ≡ None → Looked young v u → u.section ≡ None
looked_outside young v u none l = ap {A = View} (λ z. z.section) l.is ∙ none

-- the whole, of a worker that knew what the pass knew
pub works_whole : (knows : View → Type 0) (rose : Type 0) (moment : ℕ) (job : Job) (answer : JobAnswer) (v : View) → EndsFrom knows rose moment (last_known v) job answer v → WorksSo knows rose moment job answer v
works_whole knows rose moment job answer v w = (w.0, w.1, works_all rose moment job answer v w.0 w.3 w.2, w.3)

-- ---- there is no such revision

module _ (knows : View → Type 0) (rose : Type 0) (moment line young n : ℕ) (v u : View) (known : knows u) (none : v.section ≡ None) (l : Looked young v u) where
  -- the history has the youngest revision that was told
  long : (h : List Recorded) → IsOnward u h → length (take (young + 1) h) ≡ young + 1
  long h onward = part_length young h (let told = looked_told young v u l in omega (arith, told, onward.has))

  few : (h : List Recorded) → IsOnward u h → last_known v < length (take (young + 1) h)
  few h onward = omega (arith, long h onward, looked_last young v u l)

  lacks_ends : (job : Job) → ((h : List Recorded) → IsOnward u h → IsDone moment (revisions h) (last_known v) job (Stopped line (Request (NoRev n young)))) → EndsFrom knows rose moment (last_known v) job (Stopped line (Request (NoRev n young))) v
  lacks_ends job done = (
    u,
    known,
    ends_so moment (last_known v) job (Stopped line (Request (NoRev n young))) v u (by_look young v u none l) refl (let told = looked_told young v u l in omega (arith, told)) (λ h onward. inl (done h onward)),
    tt,
  )

-- a commit
pub no_base : (knows : View → Type 0) (rose : Type 0) (moment young : ℕ) (job : CommitJob) (fault : Fault) (v u : View) → knows u → v.section ≡ None → Looked young v u → LacksBase job.base young fault → WorksSo knows rose moment (jobs.Commit job) (Stopped job.line fault) v
no_base knows rose moment young job fault v u known none l lacks =
    subst (λ (f : Fault). WorksSo knows rose moment (jobs.Commit job) (Stopped job.line f) v) (sym lacks.3)
    (works_whole knows rose moment (jobs.Commit job) (Stopped job.line (Request (NoRev lacks.0 young))) v (lacks_ends knows rose moment job.line young lacks.0 v u known none l (jobs.Commit job) (λ h onward.
    lacks_line moment (last_known v) lacks.0 young job h (take (young + 1) h) (begins_take (young + 1) h) (few knows rose moment job.line young lacks.0 v u known none l h onward) (long knows rose moment job.line young lacks.0 v u known none l h onward) lacks.1 lacks.2)))

-- a reading
pub no_base_read : (knows : View → Type 0) (rose : Type 0) (moment young : ℕ) (job : ReadJob) (fault : Fault) (v u : View) → knows u → v.section ≡ None → Looked young v u → LacksBase job.base young fault → WorksSo knows rose moment (jobs.Read job) (Stopped job.line fault) v
no_base_read knows rose moment young job fault v u known none l lacks =
    subst (λ (f : Fault). WorksSo knows rose moment (jobs.Read job) (Stopped job.line f) v) (sym lacks.3)
    (works_whole knows rose moment (jobs.Read job) (Stopped job.line (Request (NoRev lacks.0 young))) v (lacks_ends knows rose moment job.line young lacks.0 v u known none l (jobs.Read job) (λ h onward.
    lacks_read_line moment (last_known v) lacks.0 young job h (take (young + 1) h) (begins_take (young + 1) h) (few knows rose moment job.line young lacks.0 v u known none l h onward) (long knows rose moment job.line young lacks.0 v u known none l h onward) lacks.1 lacks.2)))
