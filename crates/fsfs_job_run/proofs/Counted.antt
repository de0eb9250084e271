-- Causes of failures, one behind another, and what is told where a job was refused for mergeinfo.
use Rattle.std.proofs.Common.{◌≡◌, ℕ, List, [], false, subst}
use Rattle.fsfs_base.specs.declared.fields.txn_name.TxnName.{TxnName}
use Rattle.fsfs_tree.specs.Dated.{last_of}
use Rattle.fsfs_tree.specs.Revisions.{tree_of}
use Rattle.fsfs_machine.specs.declared.machine.Recorded.{Recorded}
use Rattle.fsfs_machine.specs.Machine.{revisions}
use Rattle.fsfs_turn.specs.Bytes.{bytes_of}
use Rattle.fsfs_turn.specs.Views.{View}
use Rattle.fsfs_script.specs.declared.job_lines.job.CommitJob.{CommitJob}
use Rattle.fsfs_script.specs.declared.job_lines.job.Job.{Job}
use Rattle.fsfs_script.specs.declared.job_lines.job.Job.TheVariants as jobs
use Rattle.fsfs_cli.specs.declared.faults.fault.Fault.{Fault}
use Rattle.fsfs_cli.specs.declared.faults.fault.Fault.TheVariants.{Words, Request, Repository, Outside, Memory, Limit}
use Rattle.fsfs_cli.specs.declared.faults.outside_fault.OutsideFault.TheVariants as outside
use Rattle.fsfs_cli.specs.declared.faults.request_fault.RequestFault.{RequestFault}
use Rattle.fsfs_cli.specs.declared.faults.request_fault.RequestFault.TheVariants as requests
use Rattle.fsfs_jobs.specs.Edits.{StopsAt}
use Rattle.fsfs_jobs.specs.Serial.{base_of}
use Rattle.fsfs_cli.specs.declared.faults.limit_fault.LimitFault.{LimitFault}
use Rattle.fsfs_cli.specs.declared.faults.limit_fault.LimitFault.TheVariants as limits
use Rattle.fsfs_jobs.specs.declared.answer.JobAnswer.{JobAnswer}
use Rattle.fsfs_jobs.specs.declared.answer.JobAnswer.TheVariants as answers
use Rattle.fsfs_jobs.specs.JobEdits.Editing.{Bars, IfRefused, IfDisk}
use Rattle.fsfs_job_run.specs.Serial.Jobs.{tells_full}
use Rattle.fsfs_job_run.specs.Running.{HasOutsideCause, IfCounted, IsNoRequest, StopsOver, DoesSo}

-- ---- causes

limit_on : (P Q : Type 0) (u : View) (line : ℕ) (why : LimitFault) → HasOutsideCause P u (answers.Stopped line (Limit why)) → HasOutsideCause Q u (answers.Stopped line (Limit why))
limit_on P Q u line limits.TextTooLong h = tt
limit_on P Q u line limits.PropTooLong h = tt
limit_on P Q u line limits.TooManyEntries h = tt
limit_on P Q u line limits.TooManyJobs h = tt
limit_on P Q u line limits.NamesFull h = h
limit_on P Q u line limits.RevsFull h = tt

pub outside_on : (P Q : Type 0) (u : View) (answer : JobAnswer) → (P → Q) → HasOutsideCause P u answer → HasOutsideCause Q u answer
outside_on P Q u (answers.Committed rev) f h = tt
outside_on P Q u (answers.Read text) f h = tt
outside_on P Q u (answers.Conflict head path) f h = tt
outside_on P Q u (answers.Stopped line (Words why)) f h = tt
outside_on P Q u (answers.Stopped line (Request why)) f h = tt
outside_on P Q u (answers.Stopped line (Repository why)) f h = tt
outside_on P Q u (answers.Stopped line (Outside outside.Mount)) f h = h
outside_on P Q u (answers.Stopped line (Outside (outside.Disk at))) f h = f h
outside_on P Q u (answers.Stopped line (Outside outside.Read)) f h = h
outside_on P Q u (answers.Stopped line (Outside outside.Write)) f h = h
outside_on P Q u (answers.Stopped line (Outside outside.Bench)) f h = tt
outside_on P Q u (answers.Stopped line (Outside (outside.Stuck at))) f h = h
outside_on P Q u (answers.Stopped line Memory) f h = tt
outside_on P Q u (answers.Stopped line (Limit why)) f h = limit_on P Q u line why h

-- the same, over more calls
pub does_on : (knows : View → Type 0) (P Q : Type 0) (moment : ℕ) (job : Job) (answer : JobAnswer) (v : View) → (P → Q) → DoesSo knows P moment job answer v → DoesSo knows Q moment job answer v
does_on knows P Q moment job answer v f d = (d.0, d.1, d.2, outside_on P Q d.0 answer f d.3)

limit_outside : (Q : Type 0) (line : ℕ) (u : View) (why : LimitFault) → tells_full (answers.Stopped line (Limit why)) ≡ false → HasOutsideCause Q u (answers.Stopped line (Limit why))
limit_outside Q line u limits.TextTooLong unfull = tt
limit_outside Q line u limits.PropTooLong unfull = tt
limit_outside Q line u limits.TooManyEntries unfull = tt
limit_outside Q line u limits.TooManyJobs unfull = tt
limit_outside Q line u limits.NamesFull unfull = absurd cc
limit_outside Q line u limits.RevsFull unfull = tt

-- of an edit
pub edits_outside : (P Q : Type 0) (line : ℕ) (u : View) (fault : Fault) → (P → Q) → IfDisk fault P → tells_full (answers.Stopped line fault) ≡ false → HasOutsideCause Q u (answers.Stopped line fault)
edits_outside P Q line u (Words why) f h unfull = tt
edits_outside P Q line u (Request why) f h unfull = tt
edits_outside P Q line u (Repository why) f h unfull = tt
edits_outside P Q line u (Outside outside.Mount) f h unfull = h
edits_outside P Q line u (Outside (outside.Disk at)) f h unfull = f h
edits_outside P Q line u (Outside outside.Read) f h unfull = h
edits_outside P Q line u (Outside outside.Write) f h unfull = h
edits_outside P Q line u (Outside outside.Bench) f h unfull = tt
edits_outside P Q line u (Outside (outside.Stuck at)) f h unfull = absurd h
edits_outside P Q line u Memory f h unfull = tt
edits_outside P Q line u (Limit why) f h unfull = limit_outside Q line u why unfull

-- ---- mergeinfo

pub none_counted : (job : Job) (answer : JobAnswer) (P : CommitJob → ℕ → Fault → Type 0) → IsNoRequest answer → IfCounted job answer P
none_counted (jobs.Read job) answer P none = tt
none_counted (jobs.Commit job) (answers.Committed rev) P none = tt
none_counted (jobs.Commit job) (answers.Read text) P none = tt
none_counted (jobs.Commit job) (answers.Conflict head path) P none = tt
none_counted (jobs.Commit job) (answers.Stopped line (Words why)) P none = tt
none_counted (jobs.Commit job) (answers.Stopped line (Request why)) P none = absurd none
none_counted (jobs.Commit job) (answers.Stopped line (Repository why)) P none = tt
none_counted (jobs.Commit job) (answers.Stopped line (Outside why)) P none = tt
none_counted (jobs.Commit job) (answers.Stopped line Memory) P none = tt
none_counted (jobs.Commit job) (answers.Stopped line (Limit why)) P none = tt

-- the fact may say less
pub counted_on : (job : Job) (answer : JobAnswer) (P Q : CommitJob → ℕ → Fault → Type 0) → ((j : CommitJob) (line : ℕ) (fault : Fault) → P j line fault → Q j line fault) → IfCounted job answer P → IfCounted job answer Q
counted_on (jobs.Read job) answer P Q f c = tt
counted_on (jobs.Commit job) (answers.Committed rev) P Q f c = tt
counted_on (jobs.Commit job) (answers.Read text) P Q f c = tt
counted_on (jobs.Commit job) (answers.Conflict head path) P Q f c = tt
counted_on (jobs.Commit job) (answers.Stopped line (Words why)) P Q f c = tt
counted_on (jobs.Commit job) (answers.Stopped line (Request why)) P Q f c = asked why c
  where
    asked : (w : RequestFault) → IfCounted (jobs.Commit job) (answers.Stopped line (Request w)) P → IfCounted (jobs.Commit job) (answers.Stopped line (Request w)) Q
    asked (requests.NotFound path) c = tt
    asked (requests.NotDir path) c = tt
    asked (requests.NotFile path) c = tt
    asked (requests.NoRev n youngest) c = tt
    asked (requests.NoTxn txn) c = tt
    asked requests.AlreadyRepo c = tt
    asked requests.NotRepo c = tt
    asked (requests.Exists path) c = tt
    asked requests.RootFixed c = tt
    asked (requests.Mergeinfo path) c = f job line (Request (requests.Mergeinfo path)) c
    asked (requests.BadScript bad) c = tt
counted_on (jobs.Commit job) (answers.Stopped line (Repository why)) P Q f c = tt
counted_on (jobs.Commit job) (answers.Stopped line (Outside why)) P Q f c = tt
counted_on (jobs.Commit job) (answers.Stopped line Memory) P Q f c = tt
counted_on (jobs.Commit job) (answers.Stopped line (Limit why)) P Q f c = tt

pub refused_counted : (base : ℕ) (name : TxnName) (job : CommitJob) (line : ℕ) (fault : Fault) (h : List Recorded) → base ≡ base_of job.base (last_of (revisions h))
    → IfRefused fault (StopsAt (Bars (bytes_of h) (tree_of (revisions h)) (last_of (revisions h)) base name) (tree_of (revisions h)) (last_of (revisions h)) (tree_of (revisions h) base) [] job.steps line fault)
    → IfCounted (jobs.Commit job) (answers.Stopped line fault) (StopsOver h)
refused_counted base name job line fault h on s = by fault s
  where
    asked : (why : RequestFault) → StopsAt (Bars (bytes_of h) (tree_of (revisions h)) (last_of (revisions h)) base name) (tree_of (revisions h)) (last_of (revisions h)) (tree_of (revisions h) base) [] job.steps line (Request why)
        → IfCounted (jobs.Commit job) (answers.Stopped line (Request why)) (StopsOver h)
    asked (requests.NotFound path) s = tt
    asked (requests.NotDir path) s = tt
    asked (requests.NotFile path) s = tt
    asked (requests.NoRev n youngest) s = tt
    asked (requests.NoTxn txn) s = tt
    asked requests.AlreadyRepo s = tt
    asked requests.NotRepo s = tt
    asked (requests.Exists path) s = tt
    asked requests.RootFixed s = tt
    asked (requests.Mergeinfo path) s =
        (name, subst (λ (b : ℕ). StopsAt (Bars (bytes_of h) (tree_of (revisions h)) (last_of (revisions h)) b name) (tree_of (revisions h)) (last_of (revisions h)) (tree_of (revisions h) b) [] job.steps line (Request (requests.Mergeinfo path))) on s)
    asked (requests.BadScript bad) s = tt

    by : (f : Fault) → IfRefused f (StopsAt (Bars (bytes_of h) (tree_of (revisions h)) (last_of (revisions h)) base name) (tree_of (revisions h)) (last_of (revisions h)) (tree_of (revisions h) base) [] job.steps line f)
        → IfCounted (jobs.Commit job) (answers.Stopped line f) (StopsOver h)
    by (Words why) s = tt
    by (Request why) s = asked why s
    by (Repository why) s = tt
    by (Outside why) s = tt
    by Memory s = tt
    by (Limit why) s = tt
