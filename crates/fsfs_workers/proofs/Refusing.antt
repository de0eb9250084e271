-- A job one of whose edits was refused, beside others.
use Rattle.std.proofs.Common.{◌≡◌, ◌⊎◌, ◌<◌, ◌≤◌, ◌+◌, ℕ, List, [], length, take, refl, sym, ap, subst, ◌∙◌, length-append, inl, inr, arith}
use Rattle.std.proofs.lemmas.List.{take-append-le}
use Rattle.fsfs_base.specs.declared.fields.txn_name.TxnName.{TxnName}
use Rattle.fsfs_tree.specs.Nodes.{TreeFunction}
use Rattle.fsfs_tree.specs.Dated.{last_of}
use Rattle.fsfs_tree.specs.Revisions.{tree_of}
use Rattle.fsfs_model.specs.declared.flat.mark.Mark.{Mark}
use Rattle.fsfs_machine.specs.declared.machine.Recorded.{Recorded}
use Rattle.fsfs_machine.specs.Machine.{revisions}
use Rattle.fsfs_turn.specs.Bytes.{bytes_of}
use Rattle.fsfs_turn.specs.Views.{View, Begins}
use Rattle.fsfs_turn.proofs.Reading.{begins_on}
use Rattle.fsfs_turn.proofs.Moments.{begins_take}
use Rattle.fsfs_cli.specs.declared.faults.fault.Fault.{Fault}
use Rattle.fsfs_cli.specs.declared.faults.fault.Fault.TheVariants.{Words, Request, Repository, Outside, Memory, Limit}
use Rattle.fsfs_cli.specs.declared.faults.request_fault.RequestFault.TheVariants.{Mergeinfo}
use Rattle.fsfs_script.specs.declared.job_lines.edit.Edit.{Edit}
use Rattle.fsfs_script.specs.declared.job_lines.job.CommitJob.{CommitJob}
use Rattle.fsfs_script.specs.declared.job_lines.job.Job.TheVariants as jobs
use Rattle.fsfs_jobs.specs.Edits.{Refuses, StopsAt}
use Rattle.fsfs_jobs.specs.Serial.{base_of}
use Rattle.fsfs_jobs.specs.declared.answer.JobAnswer.TheVariants.{Stopped}
use Rattle.fsfs_jobs.specs.JobEdits.Editing.{Bars, IfRefused, IfDisk, IsCounted}
use Rattle.fsfs_job_run.specs.Serial.Jobs.{ByCounts, ByMemory, Fails}
use Rattle.fsfs_job_run.proofs.Composed.{told_so, outside_so}
use Rattle.fsfs_job_run.proofs.Counted.{edits_outside}
use Rattle.fsfs_job_run.proofs.Full.{edits_unfull}
use Rattle.fsfs_job_run.proofs.Edited.{stops_by}
use Rattle.fsfs_job_run.specs.Serial.Counts.{IfCounted, StopsOver}
use Rattle.fsfs_job_run.specs.Workers.Beside.{CountsIn, LineHolds, shown_in}
use Rattle.fsfs_workers.specs.Working.{EndsFrom, GoesOn, GoesOnKnown, up_to}
use Rattle.fsfs_workers.proofs.Going.{goes_on, ends_so}
use Rattle.fsfs_workers.proofs.Lines.{is_base, last_is, refused_line}
use Rattle.fsfs_workers.proofs.Parts.{part_length}
use Rattle.fsfs_workers.proofs.Shown.{stops_low}

module _ (P : Type 0) (moment k last base : ℕ) (name : TxnName) (job : CommitJob) (line : ℕ) (u : View) (less : last < length u.seen) (few : k ≤ last) (on : base ≡ base_of job.base last) (within : base ≤ last) where
  abbrev part : List Recorded
  part = up_to last u

  abbrev Stops : Fault → Type 0
  Stops fault = StopsAt (Bars (bytes_of part) (tree_of (revisions part)) (last_of (revisions part)) base name) (tree_of (revisions part)) (last_of (revisions part)) (tree_of (revisions part) base) [] job.steps line fault

  long : length part ≡ last + 1
  long = part_length last u.seen less

  -- its line holds of each history that goes on from there, and shows no revision above the last
  abbrev Tells : Fault → Type 0
  Tells fault = ((h : List Recorded) → Begins h u.seen → LineHolds moment h k (jobs.Commit job) (Stopped line fault)) × (shown_in (Stopped line fault) ≤ last)

  fails_told : (fault : Fault) → shown_in (Stopped line fault) ≡ 0 → Fails (jobs.Commit job) (Stopped line fault) → ((h : List Recorded) → Begins h u.seen → IfCounted (jobs.Commit job) (Stopped line fault) (CountsIn h k)) → Tells fault
  fails_told fault shows fails counts = (λ h begins. inr (fails, counts h begins), omega (arith, shows))

  -- the first part is one of each history that goes on from there
  counts_in : (fault : Fault) → Stops fault → (h : List Recorded) → Begins h u.seen → CountsIn h k job line fault
  counts_in fault s h begins =
      let top : last_of (revisions part) ≡ last = last_is part last long in
      let same : base ≡ base_of job.base (last_of (revisions part)) = subst (λ (n : ℕ). base ≡ base_of job.base n) (sym top) on in
      let over : StopsOver part job line fault =
      (name, subst (λ (b : ℕ). StopsAt (Bars (bytes_of part) (tree_of (revisions part)) (last_of (revisions part)) b name) (tree_of (revisions part)) (last_of (revisions part)) (tree_of (revisions part) b) [] job.steps line fault) same s) in
      let first : take (last + 1) h ≡ part = ap (λ (l : List Recorded). take (last + 1) l) begins.1 ∙ take-append-le (last + 1) u.seen begins.0 (omega (arith, less)) in
      let grown : length h ≡ length u.seen + length begins.0 = ap (λ (l : List Recorded). length l) begins.1 ∙ length-append u.seen begins.0 in
      (last, few, omega (arith, less, grown), subst (λ (l : List Recorded). StopsOver l job line fault) (sym first) over)

  flat_told : (fault : Fault) → StopsAt (λ t marks edit f. Refuses (tree_of (revisions part)) (last_of (revisions part)) t edit f) (tree_of (revisions part)) (last_of (revisions part)) (tree_of (revisions part) base) [] job.steps line fault → Tells fault
  flat_told fault stops = (
    λ h begins. inl (refused_line moment k job h part base (begins_on part u.seen h (begins_take (last + 1) u.seen) begins) (omega (arith, few, long)) (is_base job.base k (last_of (revisions part)) base (omega (arith, few, top)) (subst (λ (n : ℕ). base ≡ base_of job.base n) (sym top) on) (omega (arith, within, top))) line fault stops),
    subst (λ (n : ℕ). shown_in (Stopped line fault) ≤ n) top (stops_low (last_of (revisions part)) line (tree_of (revisions part)) (tree_of (revisions part) base) [] job.steps line fault stops),
  )
    where
      top : last_of (revisions part) ≡ last
      top = last_is part last long

  stopped_told : (fault : Fault) → Stops fault → Tells fault
  stopped_told fault s =
      by (stops_by (tree_of (revisions part)) (last_of (revisions part)) (λ t marks edit f. Refuses (tree_of (revisions part)) (last_of (revisions part)) t edit f)
      (IsCounted (bytes_of part) (tree_of (revisions part)) (last_of (revisions part)) base name) (tree_of (revisions part) base) [] job.steps line fault s)
    where
      by : StopsAt (λ t marks edit f. Refuses (tree_of (revisions part)) (last_of (revisions part)) t edit f) (tree_of (revisions part)) (last_of (revisions part)) (tree_of (revisions part) base) [] job.steps line fault
          ⊎ ((t : TreeFunction) × (marks : List Mark) × (edit : Edit) × IsCounted (bytes_of part) (tree_of (revisions part)) (last_of (revisions part)) base name t marks edit fault) → Tells fault
      by (inl flat) = flat_told fault flat
      by (inr other) =
          let counts = told_so (bytes_of part) (tree_of (revisions part)) (last_of (revisions part)) base name other.0 other.1 other.2 fault other.3 in
          subst (λ (f : Fault). Tells f) (sym counts.1) (fails_told (Request (Mergeinfo counts.0)) refl (ByCounts job line counts.0) (λ h begins. counts_in (Request (Mergeinfo counts.0)) (subst (λ (f : Fault). Stops f) counts.1 s) h begins))

  refused_told : (fault : Fault) → IfRefused fault (Stops fault) → IfDisk fault P → Tells fault
  refused_told (Words why) s failed = absurd s
  refused_told (Request why) s failed = stopped_told (Request why) s
  refused_told (Repository why) s failed = absurd s
  refused_told (Outside why) s failed = fails_told (Outside why) refl (outside_so P job line why failed) (λ h begins. tt)
  refused_told Memory s failed = fails_told Memory refl (ByMemory (jobs.Commit job) line) (λ h begins. tt)
  refused_told (Limit why) s failed = stopped_told (Limit why) s

  -- and it is purged behind that
  pub refused_ends : (knows : View → Type 0) (Q : Type 0) (fault : Fault) (w : View) → (P → Q) → GoesOn u w → last ≤ u.pass.least → IfRefused fault (Stops fault) → IfDisk fault P → GoesOnKnown knows w → EndsFrom knows Q moment k (jobs.Commit job) (Stopped line fault) u
  refused_ends knows Q fault w f goes told s failed left =
      let t = refused_told fault s failed in
      let all = goes_on u w left.0 goes left.2 in (
        left.0,
        left.1,
        ends_so moment k (jobs.Commit job) (Stopped line fault) u left.0 all refl (omega (arith, t.1, told, all.least)) (λ h onward. t.0 h (begins_on u.seen left.0.seen h all.grows onward.begins)),
        edits_outside P Q line left.0 fault f failed (edits_unfull line (tree_of (revisions part)) (last_of (revisions part)) (bytes_of part) base name line (tree_of (revisions part) base) [] job.steps fault s),
      )
