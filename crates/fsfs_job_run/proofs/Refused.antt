-- A job whose edits were refused, and one whose edits were done.
use Rattle.std.proofs.Common.{◌≡◌, ◌⊎◌, ◌≤◌, ◌+◌, ◌++◌, ◌∷◌, ℕ, List, [], length, refl, sym, ap, subst, ◌∙◌, inl, inr, arith}
use Rattle.std.specs.FinMap.{get}
use Rattle.fsfs_base.specs.Paths.{Path}
use Rattle.fsfs_tree.specs.Nodes.{TreeFunction}
use Rattle.fsfs_tree.specs.Revisions.{Revision, tree_of}
use Rattle.fsfs_tree.specs.Dated.{last_of}
use Rattle.fsfs_model.specs.declared.flat.mark.Mark.{Mark}
use Rattle.fsfs_machine.specs.declared.machine.Txn.{Txn}
use Rattle.fsfs_machine.specs.Machine.{entry_of, revisions}
use Rattle.fsfs_turn.specs.Views.{View}
use Rattle.fsfs_turn.specs.Alone.{BringsNoDoubt}
use Rattle.fsfs_script.specs.declared.job_lines.edit.Edit.{Edit}
use Rattle.fsfs_script.specs.declared.job_lines.job.CommitJob.{CommitJob}
use Rattle.fsfs_script.specs.declared.job_lines.job.Job.TheVariants as jobs
use Rattle.fsfs_cli.specs.declared.faults.fault.Fault.{Fault}
use Rattle.fsfs_cli.specs.declared.faults.fault.Fault.TheVariants.{Request}
use Rattle.fsfs_cli.specs.declared.faults.request_fault.RequestFault.TheVariants.{Mergeinfo}
use Rattle.fsfs_jobs.specs.Edits.{Refuses, StopsAt, TakesSteps}
use Rattle.fsfs_jobs.specs.Properties.{job_properties}
use Rattle.fsfs_jobs.specs.Serial.{Begins, Refused, base_of}
use Rattle.fsfs_jobs.specs.declared.answer.JobAnswer.{JobAnswer}
use Rattle.fsfs_jobs.specs.declared.answer.JobAnswer.TheVariants.{Stopped}
use Rattle.fsfs_job_run.specs.Serial.Jobs.{DoesJob, Fails, ByCounts, LeftBy, RunsJob, WasToAdd}
use Rattle.fsfs_job_run.proofs.Finite.{edited_maps}
use Rattle.fsfs_job_run.specs.Running.{Stays}
use Rattle.fsfs_job_run.specs.Ending.{CommitsTxn, EndsTxn, IsEdited, TxnLeft}
use Rattle.fsfs_job_run.proofs.Staying.{stays_then}
use Rattle.fsfs_job_run.proofs.Ended.{edited_does}
use Rattle.fsfs_job_run.proofs.Edited.{stops_by}

-- ---- refused, by the flat model or by something else that is told as mergeinfo

pub refused_does : (moment : ℕ) (job : CommitJob) (h : List Revision) (line : ℕ) (fault : Fault) → base_of job.base (last_of h) ≤ last_of h
    → StopsAt (λ t marks edit f. Refuses (tree_of h) (last_of h) t edit f) (tree_of h) (last_of h) (tree_of h (base_of job.base (last_of h))) [] job.steps line fault → DoesJob moment h (jobs.Commit job) (Stopped line fault) h
refused_does moment job h line fault within stops = ([], tt, λ t less. (t + 1, omega arith, Begins job (Stopped line fault) h within less (Refused line fault stops)))

pub stopped_does : (moment : ℕ) (job : CommitJob) (h : List Revision) (line : ℕ) (fault : Fault) (Q : TreeFunction → List Mark → Edit → Fault → Type 0) → ((t : TreeFunction) (marks : List Mark) (edit : Edit) → Q t marks edit fault → (path : Path) × (fault ≡ Request (Mergeinfo path)))
    → base_of job.base (last_of h) ≤ last_of h
    → StopsAt (λ t marks edit f. Refuses (tree_of h) (last_of h) t edit f ⊎ Q t marks edit f) (tree_of h) (last_of h) (tree_of h (base_of job.base (last_of h))) [] job.steps line fault
    → DoesJob moment h (jobs.Commit job) (Stopped line fault) h ⊎ Fails (jobs.Commit job) (Stopped line fault)
stopped_does moment job h line fault Q told within stops =
    by (stops_by (tree_of h) (last_of h) (λ t marks edit f. Refuses (tree_of h) (last_of h) t edit f) Q (tree_of h (base_of job.base (last_of h))) [] job.steps line fault stops)
  where
    by : StopsAt (λ t marks edit f. Refuses (tree_of h) (last_of h) t edit f) (tree_of h) (last_of h) (tree_of h (base_of job.base (last_of h))) [] job.steps line fault ⊎ ((t : TreeFunction) × (marks : List Mark) × (edit : Edit) × Q t marks edit fault)
        → DoesJob moment h (jobs.Commit job) (Stopped line fault) h ⊎ Fails (jobs.Commit job) (Stopped line fault)
    by (inl flat) = inl (refused_does moment job h line fault within flat)
    by (inr other) =
        let counts = told other.0 other.1 other.2 other.3 in
        inr (subst (λ (f : Fault). Fails (jobs.Commit job) (Stopped line f)) (sym counts.1) (ByCounts job line counts.0))

-- ---- done

-- the machine's transaction with what the edits came to
pub edited_txn : (h : List Revision) (last name base : ℕ) (job : CommitJob) (t : TreeFunction) (marks : List Mark) → TakesSteps (tree_of h) last (tree_of h base) [] job.steps t marks
    → (x : Txn) × (x.name ≡ name) × (x.base ≡ base) × (get x.tree ≡ t) × (x.marks ≡ marks)
edited_txn h last name base job t marks takes =
    let m = edited_maps h last base job.steps t marks takes in
    (record { name = name; base = base; tree = m.0; marks = marks; landings = 0 }, refl, refl, m.1, refl)

-- a job whose edits were done ends as its transaction does
pub ends_job : (moment : ℕ) (job : CommitJob) (answer : JobAnswer) (x : Txn) (v u : View) → base_of job.base (last_of (revisions v.seen)) ≤ last_of (revisions v.seen) → IsEdited job (base_of job.base (last_of (revisions v.seen))) (revisions v.seen) x
    → EndsTxn moment job answer x v u → RunsJob moment (jobs.Commit job) answer v u
ends_job moment job answer x v u within e ends = record { done = by ends.done; leaves = ends.leaves; left = left_by ends.left }
  where
    left_by : TxnLeft moment job x v u → LeftBy moment (jobs.Commit job) v u
    left_by (inl kept) = inl kept
    left_by (inr (c, is, was)) = inr (
      c,
      is,
      record {
        commit = job;
        is = refl;
        entry = entry_of v.number x (job_properties was.date job);
        made = record { within = within; on = e.on; takes = e.takes; date = was.date; dated = was.dated; properties = refl };
        lands = was.lands;
      },
    )

    by : CommitsTxn moment v.number job (revisions v.seen) x answer (revisions u.seen) ⊎ Fails (jobs.Commit job) answer → DoesJob moment (revisions v.seen) (jobs.Commit job) answer (revisions u.seen) ⊎ Fails (jobs.Commit job) answer
    by (inl commits) = inl (edited_does moment v.number job answer (revisions v.seen) (revisions u.seen) x within e commits)
    by (inr fails) = inr fails

-- what came before it added nothing
pub runs_behind : (moment : ℕ) (job : CommitJob) (answer : JobAnswer) (v m u : View) → Stays v m → BringsNoDoubt v m → m.left ≡ v.left → RunsJob moment (jobs.Commit job) answer m u → RunsJob moment (jobs.Commit job) answer v u
runs_behind moment job answer v m u stays brings kept runs = record {
  done = subst (λ (h : List Revision). DoesJob moment h (jobs.Commit job) answer (revisions u.seen) ⊎ Fails (jobs.Commit job) answer) (ap revisions stays.seen) runs.done;
  leaves = stays_then answer v m u stays brings runs.leaves;
  left = left_by runs.left;
}
  where
    left_by : LeftBy moment (jobs.Commit job) m u → LeftBy moment (jobs.Commit job) v u
    left_by (inl same) = inl (same ∙ kept)
    left_by (inr (c, is, was)) = inr (c, is, subst (λ (h : List Revision). WasToAdd moment h (jobs.Commit job) u.seen c) (ap revisions stays.seen) was)
