-- Answers that tell of a failed call of the disk, and why.
use Rattle.std.proofs.Common.{◌≡◌, ◌<◌, ℕ, sym, subst}
use Rattle.std.specs.Prelude.{Result, Ok, Err, IfErr}
use Rattle.fsfs_revision.specs.declared.wrong.Wrong.{Wrong}
use Rattle.fsfs_revision.specs.declared.wrong.Wrong.TheVariants as wrongs
use Rattle.fsfs_revision.specs.declared.wrong.Refusal.TheVariants as refusals
use Rattle.fsfs_cli.specs.CommandFaults.{fault_from_wrong}
use Rattle.fsfs_cli.specs.declared.faults.fault.Fault.{Fault}
use Rattle.fsfs_cli.specs.declared.faults.fault.Fault.TheVariants.{Words, Request, Repository, Outside, Memory, Limit}
use Rattle.fsfs_cli.specs.declared.faults.outside_fault.OutsideFault.TheVariants as outside
use Rattle.fsfs_cli.specs.declared.faults.request_fault.RequestFault.TheVariants.{NoRev}
use Rattle.fsfs_repo.specs.BeginFaults.{IfDisk as IfBeginFails}
use Rattle.fsfs_repo.specs.BeginFault.{BeginFault}
use Rattle.fsfs_repo.specs.BeginFault.TheVariants as begin
use Rattle.fsfs_repo.specs.declared.txns.answers.CommitBar.{CommitBar}
use Rattle.fsfs_repo.specs.declared.txns.answers.CommitBar.TheVariants as bars
use Rattle.fsfs_jobs.specs.declared.answer.JobAnswer.{JobAnswer}
use Rattle.fsfs_jobs.specs.declared.answer.JobAnswer.TheVariants as answers
use Rattle.fsfs_jobs.specs.JobEdits.Editing.{IfDisk as IfEditFails}
use Rattle.fsfs_job_run.specs.TextReads.{IfAnswerFails, IfDiskFails}
use Rattle.fsfs_job_run.specs.Faults.{fault_of_begin, fault_of_merge, answer_of_bar}

-- ---- over more calls

fault_on : (P Q : Type 0) (fault : Fault) → (P → Q) → IfDiskFails fault P → IfDiskFails fault Q
fault_on P Q (Words why) more failed = tt
fault_on P Q (Request why) more failed = tt
fault_on P Q (Repository why) more failed = tt
fault_on P Q (Outside outside.Mount) more failed = tt
fault_on P Q (Outside (outside.Disk at)) more failed = more failed
fault_on P Q (Outside outside.Read) more failed = tt
fault_on P Q (Outside outside.Write) more failed = tt
fault_on P Q (Outside outside.Bench) more failed = tt
fault_on P Q (Outside (outside.Stuck at)) more failed = tt
fault_on P Q Memory more failed = tt
fault_on P Q (Limit why) more failed = tt

pub fails_on : (P Q : Type 0) (answer : JobAnswer) → (P → Q) → IfAnswerFails answer P → IfAnswerFails answer Q
fails_on P Q (answers.Committed rev) more failed = tt
fails_on P Q (answers.Read text) more failed = tt
fails_on P Q (answers.Conflict head path) more failed = tt
fails_on P Q (answers.Stopped line fault) more failed = fault_on P Q fault more failed

-- ---- of each kind

pub request_fails : (P : Type 0) (line : ℕ) (fault : Fault) → (asked : ℕ) × (youngest : ℕ) × (fault ≡ Request (NoRev asked youngest)) → IfAnswerFails (answers.Stopped line fault) P
request_fails P line fault w = subst (λ (f : Fault). IfAnswerFails (answers.Stopped line f) P) (sym w.2) tt

pub numbered_asks : (r : Result ℕ Fault) (asked young : ℕ) → IfErr r (λ fault. (young < asked) × (fault ≡ Request (NoRev asked young))) → IfErr r (λ fault. (n : ℕ) × (youngest : ℕ) × (fault ≡ Request (NoRev n youngest)))
numbered_asks (Ok rev) asked young lacks = tt
numbered_asks (Err fault) asked young lacks = (asked, young, lacks.1)

pub edit_fails : (P Q : Type 0) (line : ℕ) (fault : Fault) → (P → Q) → IfEditFails fault P → IfAnswerFails (answers.Stopped line fault) Q
edit_fails P Q line (Words why) more failed = tt
edit_fails P Q line (Request why) more failed = tt
edit_fails P Q line (Repository why) more failed = tt
edit_fails P Q line (Outside outside.Mount) more failed = tt
edit_fails P Q line (Outside (outside.Disk at)) more failed = more failed
edit_fails P Q line (Outside outside.Read) more failed = tt
edit_fails P Q line (Outside outside.Write) more failed = tt
edit_fails P Q line (Outside outside.Bench) more failed = tt
edit_fails P Q line (Outside (outside.Stuck at)) more failed = tt
edit_fails P Q line Memory more failed = tt
edit_fails P Q line (Limit why) more failed = tt

wrong_fails : (P : Type 0) (wrong : Wrong) → IfDiskFails (fault_from_wrong wrong) P
wrong_fails P (wrongs.Refused (refusals.NoRev asked youngest)) = tt
wrong_fails P (wrongs.Refused (refusals.Missing rev)) = tt
wrong_fails P (wrongs.Refused (refusals.Small fault)) = tt
wrong_fails P (wrongs.Damaged damage) = tt
wrong_fails P (wrongs.Delta at) = tt

pub begin_fails : (P : Type 0) (line : ℕ) (why : BeginFault) → IfBeginFails why P → IfAnswerFails (answers.Stopped line (fault_of_begin why)) P
begin_fails P line (begin.NoRev asked youngest) failed = tt
begin_fails P line (begin.Stuck at) failed = tt
begin_fails P line (begin.Small fault) failed = tt
begin_fails P line begin.NamesFull failed = tt
begin_fails P line (begin.Wrong wrong) failed = wrong_fails P wrong
begin_fails P line (begin.DiskFault at) failed = failed
begin_fails P line begin.BenchFault failed = tt
begin_fails P line begin.Memory failed = tt

merge_fails : (P : Type 0) (wrong : Wrong) → IfDiskFails (fault_of_merge wrong) P
merge_fails P (wrongs.Refused (refusals.NoRev asked youngest)) = tt
merge_fails P (wrongs.Refused (refusals.Missing rev)) = tt
merge_fails P (wrongs.Refused (refusals.Small fault)) = tt
merge_fails P (wrongs.Damaged damage) = tt
merge_fails P (wrongs.Delta at) = tt

pub bar_fails : (P : Type 0) (line : ℕ) (bar : CommitBar) → IfAnswerFails (answer_of_bar line bar) P
bar_fails P line (bars.Conflict path head) = tt
bar_fails P line bars.RevsFull = tt
bar_fails P line (bars.Stuck at) = tt
bar_fails P line (bars.Wrong wrong) = merge_fails P wrong
bar_fails P line (bars.PastLimit limit) = tt
bar_fails P line bars.Lacking = tt
bar_fails P line bars.Memory = tt
