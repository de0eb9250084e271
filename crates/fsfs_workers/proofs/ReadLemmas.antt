-- A job that reads, beside others.
use Rattle.std.proofs.Common.{◌≡◌, ◌≤◌, ◌<◌, ◌+◌, ℕ, List, [], length, refl, sym, subst, inl, inr, arith}
use Rattle.fsfs_base.specs.declared.kind.Kind.{Kind}
use Rattle.fsfs_base.specs.declared.kind.Kind.TheVariants.{File, Dir}
use Rattle.fsfs_tree.specs.Answers.{Found, Stands, Lacking, Blocked, found_at}
use Rattle.fsfs_machine.specs.declared.machine.Recorded.{Recorded}
use Rattle.fsfs_machine.specs.Machine.{revisions}
use Rattle.fsfs_base.specs.declared.places.place.DiskPlace.TheVariants as places
use Rattle.fsfs_tree.specs.Dated.{last_of}
use Rattle.fsfs_tree.specs.Nodes.{Content, Bytes, Closed}
use Rattle.fsfs_tree.specs.Revisions.{tree_of}
use Rattle.fsfs_turn.specs.Views.{View, Begins}
use Rattle.fsfs_turn.proofs.Reading.{begins_on}
use Rattle.fsfs_turn.proofs.Moments.{begins_take}
use Rattle.fsfs_cli.specs.declared.faults.fault.Fault.TheVariants.{Outside}
use Rattle.fsfs_cli.specs.declared.faults.outside_fault.OutsideFault.TheVariants as outside
use Rattle.fsfs_script.specs.declared.job_lines.job.ReadJob.{ReadJob}
use Rattle.fsfs_script.specs.declared.job_lines.job.Job.TheVariants as jobs
use Rattle.fsfs_jobs.specs.Serial.{IsReadOf, base_of, read_kind}
use Rattle.fsfs_jobs.specs.declared.answer.JobAnswer.{JobAnswer}
use Rattle.fsfs_jobs.specs.declared.answer.JobAnswer.TheVariants as answers
use Rattle.fsfs_job_run.specs.TextReads.{ReadsSo, ByTree, DiskFails, Wants, IfAnswerFails}
use Rattle.fsfs_job_run.specs.Serial.Jobs.{ByDisk, ByMemory, IfAdded, own_of}
use Rattle.fsfs_job_run.specs.Workers.Beside.{LineHolds, shown_in}
use Rattle.fsfs_job_run.specs.Workers.Passes.{last_known}
use Rattle.fsfs_job_run.proofs.Reading.{found_bare, none_added, reads_bare, reads_outside}
use Rattle.fsfs_workers.specs.Working.{GoesOn, WorksSo, up_to}
use Rattle.fsfs_workers.proofs.Based.{works_whole}
use Rattle.fsfs_workers.proofs.Going.{ends_so, fails_behind}
use Rattle.fsfs_workers.proofs.Lines.{is_base, last_is, read_line}
use Rattle.fsfs_workers.proofs.Parts.{part_length}

-- ---- what a reading tells: no revision of its own, and none above the one that it is about

own_none : (answer : JobAnswer) → IfAdded answer ⊥ → own_of answer ≡ []
own_none (answers.Committed rev) none = absurd none
own_none (answers.Read text) none = refl
own_none (answers.Conflict head path) none = refl
own_none (answers.Stopped line fault) none = refl

kind_shows : (job : ReadJob) (rev : ℕ) (kind : Kind) (text : Content) (answer : JobAnswer) → read_kind job rev kind text answer → shown_in answer ≤ rev
kind_shows job rev Dir text answer is = subst (λ (a : JobAnswer). shown_in a ≤ rev) (sym is) (omega arith)
kind_shows job rev File (Closed at offset) answer is = subst (λ (a : JobAnswer). shown_in a ≤ rev) (sym is) (omega arith)
kind_shows job rev File (Bytes bytes) (answers.Committed r) is = absurd is
kind_shows job rev File (Bytes bytes) (answers.Read read) is = omega (arith, is.0)
kind_shows job rev File (Bytes bytes) (answers.Conflict head path) is = absurd is
kind_shows job rev File (Bytes bytes) (answers.Stopped line fault) is = absurd is

found_shows : (job : ReadJob) (rev : ℕ) (found : Found) (answer : JobAnswer) → IsReadOf job rev found answer → shown_in answer ≤ rev
found_shows job rev (Stands node) answer is = kind_shows job rev node.kind node.text answer is
found_shows job rev (Lacking at) answer is = subst (λ (a : JobAnswer). shown_in a ≤ rev) (sym is) (omega arith)
found_shows job rev (Blocked at) answer is = subst (λ (a : JobAnswer). shown_in a ≤ rev) (sym is) (omega arith)

reads_shows : (job : ReadJob) (rev : ℕ) (found : Found) (answer : JobAnswer) → ReadsSo job rev found answer → shown_in answer ≤ rev
reads_shows job rev found answer (ByTree _ is) = found_shows job rev found answer is
reads_shows job rev found _ DiskFails = omega arith
reads_shows job rev found _ Wants = omega arith

-- ---- over the first part of what was seen that ends with the revision that was the youngest as the job began

module _ (moment k young base : ℕ) (job : ReadJob) (v : View) (less : young < length v.seen) (few : k ≤ young) (on : base ≡ base_of job.base young) (within : base ≤ young) where
  long : length (up_to young v) ≡ young + 1
  long = part_length young v.seen less

  last : last_of (revisions (up_to young v)) ≡ young
  last = last_is (up_to young v) young long

  reads_line : (h : List Recorded) (answer : JobAnswer) → Begins h v.seen → ReadsSo job base (found_at (tree_of (revisions (up_to young v)) base) job.path) answer → LineHolds moment h k (jobs.Read job) answer
  reads_line h answer begins (ByTree _ is) =
      inl (read_line moment k base job answer h (up_to young v) (begins_on (up_to young v) v.seen h (begins_take (young + 1) v.seen) begins) (omega (arith, long, few))
      (is_base job.base k (last_of (revisions (up_to young v))) base (omega (arith, few, last)) (subst (λ (n : ℕ). base ≡ base_of job.base n) (sym last) on) (omega (arith, within, last)))
      (λ P. none_added P answer (found_bare job base (found_at (tree_of (revisions (up_to young v)) base) job.path) answer is)) is)
  reads_line h _ begins DiskFails = inr (ByDisk (jobs.Read job) job.line places.Read, tt)
  reads_line h _ begins Wants = inr (ByMemory (jobs.Read job) job.line, tt)

-- seen from as the job began (v), of what the pass had seen as it read (m)
pub read_so : (knows : View → Type 0) (rose : Type 0) (moment young base : ℕ) (job : ReadJob) (answer : JobAnswer) (v m u : View) → knows u → last_known v ≤ young → young ≤ u.pass.least → young < length m.seen → base ≡ base_of job.base young → base ≤ young
    → GoesOn v u → Begins u.seen m.seen → ReadsSo job base (found_at (tree_of (revisions (up_to young m)) base) job.path) answer → IfAnswerFails answer rose → WorksSo knows rose moment (jobs.Read job) answer v
read_so knows rose moment young base job answer v m u known few told less on within goes grows reads failed =
    works_whole knows rose moment (jobs.Read job) answer v (
      u,
      known,
      ends_so moment (last_known v) (jobs.Read job) answer v u goes (own_none answer (reads_bare job base found answer reads)) (omega (arith, told, within, reads_shows job base found answer reads))
          (λ h onward. reads_line moment (last_known v) young base job m less few on within h answer (begins_on m.seen u.seen h grows onward.begins) reads),
      reads_outside rose u job base found answer reads failed,
    )
  where
    found : Found
    found = found_at (tree_of (revisions (up_to young m)) base) job.path

-- the pass did not see what it was told of
pub unseen_so : (knows : View → Type 0) (rose : Type 0) (moment : ℕ) (job : ReadJob) (answer : JobAnswer) (v u : View) → knows u → GoesOn v u → rose → answer ≡ answers.Stopped job.line (Outside (outside.Disk places.Read)) → WorksSo knows rose moment (jobs.Read job) answer v
unseen_so knows rose moment job answer v u known goes up is =
    subst (λ (a : JobAnswer). WorksSo knows rose moment (jobs.Read job) a v) (sym is)
    (works_whole knows rose moment (jobs.Read job) (answers.Stopped job.line (Outside (outside.Disk places.Read))) v (
      u,
      known,
      fails_behind moment (last_known v) (jobs.Read job) (answers.Stopped job.line (Outside (outside.Disk places.Read))) v u goes refl refl (ByDisk (jobs.Read job) job.line places.Read) (λ P. tt),
      up,
    ))
