-- Answers that tell of a bench that failed, and why.
use Rattle.std.proofs.Common.{◌≡◌, ◌<◌, ◌≤◌, ℕ, refl, sym, ap, subst, arith}
use Rattle.std.specs.Prelude.{Result, Ok, Err, IfErr}
use Rattle.fsfs_revision.specs.declared.wrong.Wrong.{Wrong}
use Rattle.fsfs_revision.specs.declared.wrong.Wrong.TheVariants as wrongs
use Rattle.fsfs_revision.specs.declared.wrong.Refusal.TheVariants as refusals
use Rattle.fsfs_cli.specs.CommandFaults.{fault_from_wrong}
use Rattle.fsfs_cli.specs.declared.faults.fault.Fault.{Fault}
use Rattle.fsfs_cli.specs.declared.faults.fault.Fault.TheVariants.{Words, Request, Repository, Outside, Memory, Limit}
use Rattle.fsfs_cli.specs.declared.faults.outside_fault.OutsideFault.TheVariants as outside
use Rattle.fsfs_cli.specs.declared.faults.request_fault.RequestFault.TheVariants.{NoRev}
use Rattle.fsfs_turn.specs.Mountings.{RoseBy}
use Rattle.fsfs_repo.specs.BeginFaults.{bench_faults}
use Rattle.fsfs_repo.specs.BeginFault.{BeginFault}
use Rattle.fsfs_repo.specs.BeginFault.TheVariants as begin
use Rattle.fsfs_repo.specs.declared.txns.answers.CommitBar.{CommitBar}
use Rattle.fsfs_repo.specs.declared.txns.answers.CommitBar.TheVariants as bars
use Rattle.fsfs_jobs.specs.declared.answer.JobAnswer.{JobAnswer}
use Rattle.fsfs_jobs.specs.declared.answer.JobAnswer.TheVariants as answers
use Rattle.fsfs_jobs.specs.declared.job_edits.edits.Stopped.{Stopped as Halted}
use Rattle.fsfs_base.specs.Failures.{Rose}
use Rattle.fsfs_jobs.specs.JobEdits.Editing.{IfBench}
use Rattle.fsfs_job_run.specs.TextReads.{IsNoBench}
use Rattle.fsfs_job_run.specs.Serial.Jobs.{bench_told}
use Rattle.fsfs_job_run.specs.Faults.{fault_of_begin, fault_of_merge, answer_of_bar}

wrong_told : (line : ℕ) (wrong : Wrong) → bench_told (answers.Stopped line (fault_from_wrong wrong)) ≡ 0
wrong_told line (wrongs.Refused (refusals.NoRev asked youngest)) = refl
wrong_told line (wrongs.Refused (refusals.Missing rev)) = refl
wrong_told line (wrongs.Refused (refusals.Small fault)) = refl
wrong_told line (wrongs.Damaged damage) = refl
wrong_told line (wrongs.Delta at) = refl

-- a beginning that failed
pub begin_told : (line : ℕ) (why : BeginFault) → bench_told (answers.Stopped line (fault_of_begin why)) ≡ bench_faults why
begin_told line (begin.NoRev asked youngest) = refl
begin_told line (begin.Stuck at) = refl
begin_told line (begin.Small fault) = refl
begin_told line begin.NamesFull = refl
begin_told line (begin.Wrong wrong) = wrong_told line wrong
begin_told line (begin.DiskFault at) = refl
begin_told line begin.BenchFault = refl
begin_told line begin.Memory = refl

merge_told : (line : ℕ) (wrong : Wrong) → bench_told (answers.Stopped line (fault_of_merge wrong)) ≡ 0
merge_told line (wrongs.Refused (refusals.NoRev asked youngest)) = refl
merge_told line (wrongs.Refused (refusals.Missing rev)) = refl
merge_told line (wrongs.Refused (refusals.Small fault)) = refl
merge_told line (wrongs.Damaged damage) = refl
merge_told line (wrongs.Delta at) = refl

-- a transaction that is handed back
pub bar_told : (line : ℕ) (bar : CommitBar) → bench_told (answer_of_bar line bar) ≡ 0
bar_told line (bars.Conflict path head) = refl
bar_told line bars.RevsFull = refl
bar_told line (bars.Stuck at) = refl
bar_told line (bars.Wrong wrong) = merge_told line wrong
bar_told line (bars.PastLimit limit) = refl
bar_told line bars.Lacking = refl
bar_told line bars.Memory = refl

-- a revision that there isn't
pub request_told : (line : ℕ) (fault : Fault) → (asked : ℕ) × (youngest : ℕ) × (fault ≡ Request (NoRev asked youngest)) → bench_told (answers.Stopped line fault) ≡ 0
request_told line fault w = ap (λ (f : Fault). bench_told (answers.Stopped line f)) w.2

-- edits of which one was not done
pub edit_told : (line : ℕ) (fault : Fault) (k : ℕ) → IfBench fault (0 < k) → bench_told (answers.Stopped line fault) ≤ k
edit_told line (Words why) k failed = omega arith
edit_told line (Request why) k failed = omega arith
edit_told line (Repository why) k failed = omega arith
edit_told line (Outside outside.Mount) k failed = omega arith
edit_told line (Outside (outside.Disk at)) k failed = omega arith
edit_told line (Outside outside.Read) k failed = omega arith
edit_told line (Outside outside.Write) k failed = omega arith
edit_told line (Outside outside.Bench) k failed = omega (arith, failed)
edit_told line (Outside (outside.Stuck at)) k failed = omega arith
edit_told line Memory k failed = omega arith
edit_told line (Limit why) k failed = omega arith

-- of the one that stopped them it is known
pub edits_blamed : (r : Result (Unit {0}) Halted) (s : Halted) (fault : Fault) (P : Type 0) → r ≡ Err s → s.fault ≡ fault → IfErr r (λ e. IfBench e.fault P) → IfBench fault P
edits_blamed r s fault P is why failed = subst (λ (f : Fault). IfBench f P) why (subst (λ (q : Result (Unit {0}) Halted). IfErr q (λ e. IfBench e.fault P)) is failed)

bench_on : (P Q : Type 0) (fault : Fault) → (P → Q) → IfBench fault P → IfBench fault Q
bench_on P Q (Words why) more failed = tt
bench_on P Q (Request why) more failed = tt
bench_on P Q (Repository why) more failed = tt
bench_on P Q (Outside outside.Mount) more failed = tt
bench_on P Q (Outside (outside.Disk at)) more failed = tt
bench_on P Q (Outside outside.Read) more failed = tt
bench_on P Q (Outside outside.Write) more failed = tt
bench_on P Q (Outside outside.Bench) more failed = more failed
bench_on P Q (Outside (outside.Stuck at)) more failed = tt
bench_on P Q Memory more failed = tt
bench_on P Q (Limit why) more failed = tt

-- a count that rose is none at 0
pub bench_failed : (r : Result (Unit {0}) Halted) (before now : ℕ) → IfErr r (λ e. IfBench e.fault (Rose before now)) → IfErr r (λ e. IfBench e.fault (0 < now))
bench_failed (Ok done) before now failed = tt
bench_failed (Err e) before now failed = bench_on (Rose before now) (0 < now) e.fault (λ rose. omega (arith, rose)) failed

-- a reading
pub read_told : (answer : JobAnswer) → IsNoBench answer → bench_told answer ≡ 0
read_told (answers.Committed rev) none = refl
read_told (answers.Read text) none = refl
read_told (answers.Conflict head path) none = refl
read_told (answers.Stopped line (Words why)) none = refl
read_told (answers.Stopped line (Request why)) none = refl
read_told (answers.Stopped line (Repository why)) none = refl
read_told (answers.Stopped line (Outside outside.Mount)) none = refl
read_told (answers.Stopped line (Outside (outside.Disk at))) none = refl
read_told (answers.Stopped line (Outside outside.Read)) none = refl
read_told (answers.Stopped line (Outside outside.Write)) none = refl
read_told (answers.Stopped line (Outside outside.Bench)) none = absurd none
read_told (answers.Stopped line (Outside (outside.Stuck at))) none = refl
read_told (answers.Stopped line Memory) none = refl
read_told (answers.Stopped line (Limit why)) none = refl

-- a request is for no bench
pub request_is_none : (line : ℕ) (fault : Fault) → (asked : ℕ) × (youngest : ℕ) × (fault ≡ Request (NoRev asked youngest)) → IsNoBench (answers.Stopped line fault)
request_is_none line fault w = subst (λ (f : Fault). IsNoBench (answers.Stopped line f)) (sym w.2) tt
