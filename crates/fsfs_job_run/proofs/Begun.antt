-- A transaction that has begun, and why none was begun.
use Rattle.std.proofs.Common.{◌≡◌, ◌≤◌, ◌<◌, ◌∷◌, ℕ, List, [], length, true, ap, inl, inr, arith}
use Rattle.std.specs.Prelude.{Err}
use Rattle.fsfs_base.specs.declared.fields.txn_name.TxnName.{TxnName}
use Rattle.fsfs_draft.specs.Drafts.{Folder}
use Rattle.fsfs_revision.specs.declared.wrong.Wrong.{Wrong}
use Rattle.fsfs_revision.specs.declared.wrong.Wrong.TheVariants as wrongs
use Rattle.fsfs_revision.specs.declared.wrong.Refusal.TheVariants as refusals
use Rattle.fsfs_machine.specs.declared.machine.Recorded.{Recorded}
use Rattle.fsfs_machine.specs.Machine.{revisions}
use Rattle.fsfs_tree.specs.Dated.{last_of}
use Rattle.fsfs_machine.proofs.Growing.{revisions_length}
use Rattle.fsfs_revision.specs.Shows.Reading.{RootOf}
use Rattle.fsfs_turn.specs.Bytes.{bytes_of}
use Rattle.fsfs_turn.specs.Views.{View}
use Rattle.fsfs_cli.specs.CommandFaults.{fault_from_wrong}
use Rattle.fsfs_cli.specs.declared.faults.fault.Fault.{Fault}
use Rattle.fsfs_repo.specs.BeginSteps.{Moved}
use Rattle.fsfs_repo.specs.BeginFaults.{Cause, IfDisk, LacksNumber}
use Rattle.fsfs_repo.specs.BeginFault.{BeginFault}
use Rattle.fsfs_repo.specs.BeginFault.TheVariants as begin
use Rattle.fsfs_repo.specs.Txns.Begun.{BeginsTxn}
use Rattle.fsfs_script.specs.declared.job_lines.job.CommitJob.{CommitJob}
use Rattle.fsfs_script.specs.declared.job_lines.job.Job.TheVariants as jobs
use Rattle.fsfs_jobs.specs.declared.answer.JobAnswer.TheVariants.{Stopped}
use Rattle.fsfs_job_run.specs.Serial.Jobs.{Fails, ByDisk, ByBench, ByStuck, ByMemory, ByNames}
use Rattle.fsfs_job_run.specs.Faults.{fault_of_begin}
use Rattle.fsfs_job_run.specs.Running.{Stays, HasOutsideCause, IfCounted, CommitsSo, StopsOver}
use Rattle.fsfs_job_run.proofs.Staying.{IsCounted, seen_same, bare_leaves}

-- it gave a name, and added nothing
pub begun_stays : (name : TxnName) (base : ℕ) (settled : Folder) (v u : View) → BeginsTxn name base settled v u → IsCounted v → IsCounted u → Stays v u
begun_stays name base settled v u b all after = record {
  seen = seen_same v u all b.grows after (ap {A = View} (λ z. z.opened) b.is) (ap {A = View} (λ z. z.pass.mine) b.is);
  since = ap {A = View} (λ z. z.since) b.is;
  opened = ap {A = View} (λ z. z.opened) b.is;
  own = ap {A = View} (λ z. z.pass.mine) b.is;
  number = ap {A = View} (λ z. z.number) b.is;
  outside = ap {A = View} (λ z. z.section) b.is;
  more = name.number.number ∷ [];
  given = ap {A = View} (λ z. z.given) b.is;
}

-- and the pass is told still of the last revision that it has seen
pub begun_told : (name : TxnName) (base : ℕ) (settled : Folder) (v u : View) → BeginsTxn name base settled v u → u.seen ≡ v.seen → v.pass.least ≡ last_of (revisions v.seen) → u.pass.least ≡ last_of (revisions u.seen)
begun_told name base settled v u b same told = let long : length u.seen ≡ length v.seen = ap (λ (h : List Recorded). length h) same in omega (arith, long, revisions_length v.seen, revisions_length u.seen, b.least, b.all, told)

pub unbegun_stays : (v u : View) → Moved v u → IsCounted v → IsCounted u → Stays v u
unbegun_stays v u m all after = record {
  seen = seen_same v u all m.grows after m.opened m.mine;
  since = m.since;
  opened = m.opened;
  own = m.mine;
  number = m.number;
  outside = m.outside;
  more = m.more;
  given = m.given;
}

-- Why none was begun on a revision that there is, of which the pass was told: a failure. (Neither is the base above the youngest, nor are the
-- bytes of its root wrong.)
module _ (base line : ℕ) (job : CommitJob) (v u : View) (told : v.pass.least ≡ last_of (revisions v.seen)) (there : base ≤ last_of (revisions v.seen)) (moved : Moved v u) (whole : (wrong : Wrong) → base < length u.seen → RootOf (bytes_of u.seen) base (Err wrong) → ⊥) where
  pub begin_fails : (why : BeginFault) → Cause base why u → Fails (jobs.Commit job) (Stopped line (fault_of_begin why))
  begin_fails (begin.NoRev asked youngest) c = let on : asked ≡ base = c.0 in let most : u.pass.least ≡ youngest = c.2 in absurd (omega (arith, on, c.1, most, moved.least, told, there))
  begin_fails (begin.Stuck at) c = ByStuck (jobs.Commit job) line at
  begin_fails (begin.Small fault) c = absurd c
  begin_fails begin.NamesFull c = ByNames job line
  begin_fails (begin.Wrong wrong) c = absurd (whole wrong c.0 c.1)
  begin_fails (begin.DiskFault at) c = ByDisk (jobs.Commit job) line at
  begin_fails begin.BenchFault c = ByBench (jobs.Commit job) line
  begin_fails begin.Memory c = ByMemory (jobs.Commit job) line

  pub begin_outside : (rose : Type 0) (why : BeginFault) → Cause base why u → IfDisk why rose → HasOutsideCause rose u (Stopped line (fault_of_begin why))
  begin_outside rose (begin.NoRev asked youngest) c disk = tt
  begin_outside rose (begin.Stuck at) c disk = c
  begin_outside rose (begin.Small fault) c disk = tt
  begin_outside rose begin.NamesFull c disk = absurd c
  begin_outside rose (begin.Wrong wrong) c disk = absurd (whole wrong c.0 c.1)
  begin_outside rose (begin.DiskFault at) c disk = disk
  begin_outside rose begin.BenchFault c disk = tt
  begin_outside rose begin.Memory c disk = tt

-- none of them is told as one for counts of mergeinfo
wrong_counted : (job : CommitJob) (line : ℕ) (wrong : Wrong) (P : CommitJob → ℕ → Fault → Type 0) → IfCounted (jobs.Commit job) (Stopped line (fault_from_wrong wrong)) P
wrong_counted job line (wrongs.Refused (refusals.NoRev asked youngest)) P = tt
wrong_counted job line (wrongs.Refused (refusals.Missing rev)) P = tt
wrong_counted job line (wrongs.Refused (refusals.Small small)) P = tt
wrong_counted job line (wrongs.Damaged damage) P = tt
wrong_counted job line (wrongs.Delta at) P = tt

pub begin_counted : (job : CommitJob) (line : ℕ) (why : BeginFault) (P : CommitJob → ℕ → Fault → Type 0) → IfCounted (jobs.Commit job) (Stopped line (fault_of_begin why)) P
begin_counted job line (begin.NoRev asked youngest) P = tt
begin_counted job line (begin.Stuck at) P = tt
begin_counted job line (begin.Small fault) P = tt
begin_counted job line begin.NamesFull P = tt
begin_counted job line (begin.Wrong wrong) P = wrong_counted job line wrong P
begin_counted job line (begin.DiskFault at) P = tt
begin_counted job line begin.BenchFault P = tt
begin_counted job line begin.Memory P = tt

-- so the job failed
pub unbegun_so : (knows : View → Type 0) (rose : Type 0) (moment base : ℕ) (job : CommitJob) (why : BeginFault) (v u : View) → knows u → IsCounted v → IsCounted u → v.pass.least ≡ last_of (revisions v.seen) → base ≤ last_of (revisions v.seen) → Moved v u
    → ((wrong : Wrong) → base < length u.seen → RootOf (bytes_of u.seen) base (Err wrong) → ⊥) → Cause base why u → IfDisk why rose → CommitsSo knows rose moment job (Stopped job.line (fault_of_begin why)) v
unbegun_so knows rose moment base job why v u known all after told there moved whole cause disk = (
  (
    u,
    known,
    record {
      done = inr (begin_fails base job.line job v u told there moved whole why cause);
      leaves = bare_leaves (Stopped job.line (fault_of_begin why)) v u tt (unbegun_stays v u moved all after) (λ calm. moved.doubtless);
      left = inl moved.left;
    },
    begin_outside base job.line job v u told there moved whole rose why cause disk,
  ),
  begin_counted job job.line why (StopsOver v.seen),
)

-- or no name comes behind the number that stood in `db/txn-current`
module _ (line : ℕ) (job : CommitJob) where
  pub lacking_fails : (why : BeginFault) → LacksNumber why → Fails (jobs.Commit job) (Stopped line (fault_of_begin why))
  lacking_fails (begin.NoRev asked youngest) lacks = absurd lacks
  lacking_fails (begin.Stuck at) lacks = absurd lacks
  lacking_fails (begin.Small fault) lacks = absurd lacks
  lacking_fails begin.NamesFull lacks = ByNames job line
  lacking_fails (begin.Wrong wrong) lacks = absurd lacks
  lacking_fails (begin.DiskFault at) lacks = ByDisk (jobs.Commit job) line at
  lacking_fails begin.BenchFault lacks = absurd lacks
  lacking_fails begin.Memory lacks = absurd lacks

  pub lacking_outside : (rose : Type 0) (u : View) (why : BeginFault) → u.full ≡ true → LacksNumber why → IfDisk why rose → HasOutsideCause rose u (Stopped line (fault_of_begin why))
  lacking_outside rose u (begin.NoRev asked youngest) full lacks disk = tt
  lacking_outside rose u (begin.Stuck at) full lacks disk = absurd lacks
  lacking_outside rose u (begin.Small fault) full lacks disk = tt
  lacking_outside rose u begin.NamesFull full lacks disk = full
  lacking_outside rose u (begin.Wrong wrong) full lacks disk = absurd lacks
  lacking_outside rose u (begin.DiskFault at) full lacks disk = disk
  lacking_outside rose u begin.BenchFault full lacks disk = tt
  lacking_outside rose u begin.Memory full lacks disk = tt

-- so the job failed as well
pub lacking_so : (knows : View → Type 0) (rose : Type 0) (moment : ℕ) (job : CommitJob) (why : BeginFault) (v u : View) → knows u → IsCounted v → IsCounted u → Moved v u → u.full ≡ true → LacksNumber why → IfDisk why rose → CommitsSo knows rose moment job (Stopped job.line (fault_of_begin why)) v
lacking_so knows rose moment job why v u known all after moved full lacks disk = (
  (
    u,
    known,
    record {
      done = inr (lacking_fails job.line job why lacks);
      leaves = bare_leaves (Stopped job.line (fault_of_begin why)) v u tt (unbegun_stays v u moved all after) (λ calm. moved.doubtless);
      left = inl moved.left;
    },
    lacking_outside job.line job rose u why full lacks disk,
  ),
  begin_counted job job.line why (StopsOver v.seen),
)
