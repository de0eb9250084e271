-- A job whose base is not there.
use Rattle.std.proofs.Common.{◌≡◌, ◌≤◌, ◌<◌, ℕ, List, [], sym, ap, subst, ◌∙◌, inl, arith}
use Rattle.std.specs.Prelude.{Result, Ok, Err, IfOk, IfErr}
use Rattle.fsfs_tree.specs.Revisions.{Revision}
use Rattle.fsfs_tree.specs.Dated.{last_of}
use Rattle.fsfs_machine.specs.Machine.{revisions}
use Rattle.fsfs_turn.specs.Views.{View}
use Rattle.fsfs_script.specs.declared.job_lines.job.Base.{Base}
use Rattle.fsfs_script.specs.declared.job_lines.job.CommitJob.{CommitJob}
use Rattle.fsfs_script.specs.declared.job_lines.job.ReadJob.{ReadJob}
use Rattle.fsfs_script.specs.declared.job_lines.job.Job.TheVariants as jobs
use Rattle.fsfs_cli.specs.declared.faults.fault.Fault.{Fault}
use Rattle.fsfs_jobs.specs.Serial.{Runs, LacksRead, LacksBase as Lacks, base_of}
use Rattle.fsfs_script.specs.declared.job_lines.job.Base.TheVariants.{Youngest, Number}
use Rattle.fsfs_cli.specs.declared.faults.fault.Fault.TheVariants.{Request}
use Rattle.fsfs_cli.specs.declared.faults.request_fault.RequestFault.TheVariants.{NoRev}
use Rattle.fsfs_jobs.specs.declared.answer.JobAnswer.TheVariants.{Stopped}
use Rattle.fsfs_job_run.specs.Serial.Jobs.{RunsJob}
use Rattle.fsfs_job_run.specs.Running.{HasLooked, LacksBase, HasOutsideCause, IfCounted}
use Rattle.fsfs_job_run.proofs.Staying.{bare_leaves}

-- a commit
pub no_base : (moment : ℕ) (job : CommitJob) (fault : Fault) (v u : View) → HasLooked v u → LacksBase job.base (last_of (revisions v.seen)) fault → RunsJob moment (jobs.Commit job) (Stopped job.line fault) v u
no_base moment job fault v u looked lacks = record {
  done = inl ([], tt, λ t less. (t, omega arith, does t));
  leaves = bare_leaves (Stopped job.line fault) v u tt looked.stays (λ calm. looked.doubtless);
  left = inl looked.left;
}
  where
    does : (t : ℕ) → Runs (revisions v.seen) [] t (jobs.Commit job) (Stopped job.line fault) (revisions u.seen) t
    does t =
        subst (λ (now : List Revision). Runs (revisions v.seen) [] t (jobs.Commit job) (Stopped job.line fault) now t) (sym (ap revisions looked.stays.seen))
        (subst (λ (f : Fault). Runs (revisions v.seen) [] t (jobs.Commit job) (Stopped job.line f) (revisions v.seen) t) (sym lacks.3) (Lacks job lacks.0 lacks.1 lacks.2))

-- a reading
pub no_base_read : (moment : ℕ) (job : ReadJob) (fault : Fault) (v u : View) → HasLooked v u → LacksBase job.base (last_of (revisions v.seen)) fault → RunsJob moment (jobs.Read job) (Stopped job.line fault) v u
no_base_read moment job fault v u looked lacks = record {
  done = inl ([], tt, λ t less. (t, omega arith, does t));
  leaves = bare_leaves (Stopped job.line fault) v u tt looked.stays (λ calm. looked.doubtless);
  left = inl looked.left;
}
  where
    does : (t : ℕ) → Runs (revisions v.seen) [] t (jobs.Read job) (Stopped job.line fault) (revisions u.seen) t
    does t =
        subst (λ (now : List Revision). Runs (revisions v.seen) [] t (jobs.Read job) (Stopped job.line fault) now t) (sym (ap revisions looked.stays.seen))
        (subst (λ (f : Fault). Runs (revisions v.seen) [] t (jobs.Read job) (Stopped job.line f) (revisions v.seen) t) (sym lacks.3) (LacksRead job lacks.0 lacks.1 lacks.2))

-- none of these says that the outside failed
pub no_base_outside : (rose : Type 0) (base : Base) (last line : ℕ) (fault : Fault) (u : View) → LacksBase base last fault → HasOutsideCause rose u (Stopped line fault)
no_base_outside rose base last line fault u lacks = subst (λ (f : Fault). HasOutsideCause rose u (Stopped line f)) (sym lacks.3) tt

-- ---- the revision that it is about

pub numbered_base : (r : Result ℕ Fault) (base : Base) (n young last : ℕ) → base ≡ Number n → young ≡ last → IfOk r (λ rev. (rev ≡ n) × (rev ≤ young)) → IfOk r (λ rev. (rev ≡ base_of base last) × (rev ≤ last))
numbered_base (Ok rev) base n young last is same there = (subst (λ (b : Base). rev ≡ base_of b last) (sym is) there.0, omega (arith, there.1, same))
numbered_base (Err fault) base n young last is same there = tt

pub numbered_lacks : (r : Result ℕ Fault) (base : Base) (n young last : ℕ) → base ≡ Number n → young ≡ last → IfErr r (λ fault. (young < n) × (fault ≡ Request (NoRev n young))) → IfErr r (LacksBase base last)
numbered_lacks (Ok rev) base n young last is same lacks = tt
numbered_lacks (Err fault) base n young last is same lacks = (n, is, omega (arith, lacks.0, same), lacks.1 ∙ ap (λ (y : ℕ). Request (NoRev n y)) same)

pub youngest_base : (base : Base) (young last : ℕ) → base ≡ Youngest → young ≡ last → (young ≡ base_of base last) × (young ≤ last)
youngest_base base young last is same = (subst (λ (b : Base). young ≡ base_of b last) (sym is) same, omega (arith, same))

-- nor is it told as one for counts of mergeinfo
pub no_base_counted : (job : CommitJob) (base : Base) (last line : ℕ) (fault : Fault) (P : CommitJob → ℕ → Fault → Type 0) → LacksBase base last fault → IfCounted (jobs.Commit job) (Stopped line fault) P
no_base_counted job base last line fault P lacks = subst (λ (f : Fault). IfCounted (jobs.Commit job) (Stopped line f) P) (sym lacks.3) tt
