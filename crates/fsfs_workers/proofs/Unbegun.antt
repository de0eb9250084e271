-- A job whose transaction was begun beside others, or why none was.
use Rattle.std.proofs.Common.{◌≡◌, ◌≤◌, ◌<◌, ℕ, length, true, refl, sym, subst, arith}
use Rattle.std.specs.Prelude.{Err}
use Rattle.fsfs_base.specs.declared.fields.txn_name.TxnName.{TxnName}
use Rattle.fsfs_revision.specs.declared.wrong.Wrong.{Wrong}
use Rattle.fsfs_draft.specs.Drafts.{Folder}
use Rattle.fsfs_cli.specs.declared.faults.fault.Fault.{Fault}
use Rattle.fsfs_machine.specs.Machine.{revisions}
use Rattle.fsfs_machine.proofs.Growing.{revisions_length}
use Rattle.fsfs_revision.specs.Shows.Reading.{RootOf}
use Rattle.fsfs_tree.specs.Revisions.{tree_of}
use Rattle.fsfs_turn.specs.Bytes.{AllShow, bytes_of}
use Rattle.fsfs_turn.specs.Views.{View}
use Rattle.fsfs_job_run.specs.SeenLemmas.{shown_trees}
use Rattle.fsfs_job_run.proofs.Shown.{seen_shows}
use Rattle.fsfs_job_run.specs.BeginFaults.{Cause, IfDisk, LacksNumber}
use Rattle.fsfs_job_run.specs.BeginSteps.{Moved}
use Rattle.fsfs_job_run.specs.BeginFault.{BeginFault}
use Rattle.fsfs_job_run.specs.BeginFault.TheVariants as begin
use Rattle.fsfs_job_run.specs.TxnBegun.{BeginsTxnAmong}
use Rattle.fsfs_script.specs.declared.job_lines.job.CommitJob.{CommitJob}
use Rattle.fsfs_script.specs.declared.job_lines.job.Job.TheVariants as jobs
use Rattle.fsfs_jobs.specs.declared.answer.JobAnswer.TheVariants.{Stopped}
use Rattle.fsfs_job_run.specs.Serial.Jobs.{Fails, ByDisk, ByBench, ByStuck, ByMemory, ByNames}
use Rattle.fsfs_job_run.specs.Workers.Beside.{shown_in}
use Rattle.fsfs_job_run.specs.Workers.Passes.{last_known}
use Rattle.fsfs_job_run.specs.Faults.{fault_of_begin}
use Rattle.fsfs_job_run.specs.Running.{HasOutsideCause}
use Rattle.fsfs_job_run.proofs.Begun.{begin_counted, lacking_fails, lacking_outside}
use Rattle.fsfs_job_run.proofs.Whole.{root_whole}
use Rattle.fsfs_workers.specs.Working.{GoesOn, WorksSo}
use Rattle.fsfs_workers.proofs.Based.{works_whole}
use Rattle.fsfs_workers.proofs.Going.{by_moving, fails_behind, goes_on}

-- the root of a revision that the pass has seen is whole
pub seen_whole : (v : View) (base : ℕ) (wrong : Wrong) → AllShow v.seen → base < length v.seen → RootOf (bytes_of v.seen) base (Err wrong) → ⊥
seen_whole v base wrong all there is =
    let some : 0 < length v.seen = omega (arith, there) in
    root_whole (bytes_of v.seen) base (tree_of (revisions v.seen) base) wrong ((shown_trees v.seen some (seen_shows v.seen all some)).each base (omega (arith, there, revisions_length v.seen))) is

-- Why none was begun on a revision up to the one that the pass was told of: a failure. (Neither is the base above the youngest, nor are the
-- bytes of its root wrong.)
module _ (base line : ℕ) (job : CommitJob) (v u : View) (there : base ≤ v.pass.least) (moved : Moved v u) (shown : AllShow u.seen) where
  not_above : (asked youngest : ℕ) → Cause base (begin.NoRev asked youngest) u → ⊥
  not_above asked youngest c = let on : asked ≡ base = c.0 in let most : u.pass.least ≡ youngest = c.2 in omega (arith, on, c.1, most, moved.least, there)

  not_wrong : (wrong : Wrong) → Cause base (begin.Wrong wrong) u → ⊥
  not_wrong wrong c = seen_whole u base wrong shown c.0 c.1

  begin_fails : (why : BeginFault) → Cause base why u → Fails (jobs.Commit job) (Stopped line (fault_of_begin why))
  begin_fails (begin.NoRev asked youngest) c = absurd (not_above asked youngest c)
  begin_fails (begin.Stuck at) c = ByStuck (jobs.Commit job) line at
  begin_fails (begin.Small fault) c = absurd c
  begin_fails begin.NamesFull c = ByNames job line
  begin_fails (begin.Wrong wrong) c = absurd (not_wrong wrong c)
  begin_fails (begin.DiskFault at) c = ByDisk (jobs.Commit job) line at
  begin_fails begin.BenchFault c = ByBench (jobs.Commit job) line
  begin_fails begin.Memory c = ByMemory (jobs.Commit job) line

  begin_shows : (why : BeginFault) → Cause base why u → shown_in (Stopped line (fault_of_begin why)) ≡ 0
  begin_shows (begin.NoRev asked youngest) c = absurd (not_above asked youngest c)
  begin_shows (begin.Stuck at) c = refl
  begin_shows (begin.Small fault) c = refl
  begin_shows begin.NamesFull c = refl
  begin_shows (begin.Wrong wrong) c = absurd (not_wrong wrong c)
  begin_shows (begin.DiskFault at) c = refl
  begin_shows begin.BenchFault c = refl
  begin_shows begin.Memory c = refl

  begin_outside : (rose : Type 0) (why : BeginFault) → Cause base why u → IfDisk why rose → HasOutsideCause rose u (Stopped line (fault_of_begin why))
  begin_outside rose (begin.NoRev asked youngest) c disk = tt
  begin_outside rose (begin.Stuck at) c disk = c
  begin_outside rose (begin.Small fault) c disk = tt
  begin_outside rose begin.NamesFull c disk = absurd c
  begin_outside rose (begin.Wrong wrong) c disk = absurd (not_wrong wrong c)
  begin_outside rose (begin.DiskFault at) c disk = disk
  begin_outside rose begin.BenchFault c disk = tt
  begin_outside rose begin.Memory c disk = tt

-- so the job failed, seen from before what added nothing
pub unbegun_so : (knows : View → Type 0) (rose : Type 0) (moment base : ℕ) (job : CommitJob) (why : BeginFault) (fault : Fault) (v m u : View) → knows u → GoesOn v m → base ≤ m.pass.least → Moved m u → AllShow u.seen → Cause base why u → IfDisk why rose → fault ≡ fault_of_begin why
    → WorksSo knows rose moment (jobs.Commit job) (Stopped job.line fault) v
unbegun_so knows rose moment base job why fault v m u known goes there moved shown cause disk is =
    subst (λ (f : Fault). WorksSo knows rose moment (jobs.Commit job) (Stopped job.line f) v) (sym is)
    (works_whole knows rose moment (jobs.Commit job) (Stopped job.line (fault_of_begin why)) v (
      u,
      known,
      fails_behind moment (last_known v) (jobs.Commit job) (Stopped job.line (fault_of_begin why)) v u (goes_on v m u goes (by_moving m u moved)) refl (begin_shows base job.line job m u there moved shown why cause) (begin_fails base job.line job m u there moved shown why cause) (begin_counted job job.line why),
      begin_outside base job.line job m u there moved shown rose why cause disk,
    ))

-- or no name comes behind the number that stood in `db/txn-current`
module _ (line : ℕ) where
  lacking_shows : (why : BeginFault) → LacksNumber why → shown_in (Stopped line (fault_of_begin why)) ≡ 0
  lacking_shows (begin.NoRev asked youngest) lacks = absurd lacks
  lacking_shows (begin.Stuck at) lacks = refl
  lacking_shows (begin.Small fault) lacks = refl
  lacking_shows begin.NamesFull lacks = refl
  lacking_shows (begin.Wrong wrong) lacks = absurd lacks
  lacking_shows (begin.DiskFault at) lacks = refl
  lacking_shows begin.BenchFault lacks = refl
  lacking_shows begin.Memory lacks = refl

pub lacking_so : (knows : View → Type 0) (rose : Type 0) (moment : ℕ) (job : CommitJob) (why : BeginFault) (fault : Fault) (v m u : View) → knows u → GoesOn v m → Moved m u → u.full ≡ true → LacksNumber why → IfDisk why rose → fault ≡ fault_of_begin why
    → WorksSo knows rose moment (jobs.Commit job) (Stopped job.line fault) v
lacking_so knows rose moment job why fault v m u known goes moved full lacks disk is =
    subst (λ (f : Fault). WorksSo knows rose moment (jobs.Commit job) (Stopped job.line f) v) (sym is)
    (works_whole knows rose moment (jobs.Commit job) (Stopped job.line (fault_of_begin why)) v (
      u,
      known,
      fails_behind moment (last_known v) (jobs.Commit job) (Stopped job.line (fault_of_begin why)) v u (goes_on v m u goes (by_moving m u moved)) refl (lacking_shows job.line why lacks) (lacking_fails job.line job why lacks) (begin_counted job job.line why),
      lacking_outside job.line job rose u why full lacks disk,
    ))

-- what was begun on the base stands on that
pub begun_on : (name : TxnName) (base on : ℕ) (settled : Folder) (v u : View) → on ≡ base → BeginsTxnAmong name base settled v u → BeginsTxnAmong name on settled v u
begun_on name base on settled v u same b = subst (λ (n : ℕ). BeginsTxnAmong name n settled v u) (sym same) b
