-- The faults of a job whose transaction was not begun, or not committed.
use Rattle.fsfs_revision.specs.declared.wrong.Wrong.{Wrong}
use Rattle.fsfs_revision.specs.declared.wrong.Wrong.TheVariants as wrongs
use Rattle.fsfs_revision.specs.declared.wrong.Refusal.TheVariants as refusals
use Rattle.fsfs_cli.specs.CommandFaults.{fault_from_wrong}
use Rattle.fsfs_cli.specs.declared.faults.fault.Fault.{Fault}
use Rattle.fsfs_cli.specs.declared.faults.fault.Fault.TheVariants.{Request, Repository, Outside, Memory, Limit}
use Rattle.fsfs_cli.specs.declared.faults.request_fault.RequestFault.TheVariants as requests
use Rattle.fsfs_cli.specs.declared.faults.repository_fault.RepositoryFault.TheVariants as repositories
use Rattle.fsfs_cli.specs.declared.faults.outside_fault.OutsideFault.TheVariants as outside
use Rattle.fsfs_cli.specs.declared.faults.limit_fault.LimitFault.TheVariants as limits
use Rattle.fsfs_repo.specs.BeginFault.{BeginFault}
use Rattle.fsfs_repo.specs.BeginFault.TheVariants as begin
use Rattle.fsfs_repo.specs.declared.txns.answers.CommitBar.{CommitBar}
use Rattle.fsfs_repo.specs.declared.txns.answers.CommitBar.TheVariants as bars
use Rattle.fsfs_jobs.specs.declared.answer.JobAnswer.{JobAnswer}
use Rattle.fsfs_jobs.specs.declared.answer.JobAnswer.TheVariants.{Conflict, Stopped}
use Rattle.std.specs.Prelude.{ℕ}

abbrev pub fault_of_begin : BeginFault → Fault
fault_of_begin (begin.NoRev asked youngest) = Request (requests.NoRev asked youngest)
fault_of_begin (begin.Stuck at) = Outside (outside.Stuck at)
fault_of_begin (begin.Small fault) = Repository (repositories.Small fault)
fault_of_begin begin.NamesFull = Limit limits.NamesFull
fault_of_begin (begin.Wrong wrong) = fault_from_wrong wrong
fault_of_begin (begin.DiskFault at) = Outside (outside.Disk at)
fault_of_begin begin.BenchFault = Outside outside.Bench
fault_of_begin begin.Memory = Memory

-- (That a revision is asked for which is not there does not come of a merge.)
abbrev pub fault_of_merge : Wrong → Fault
fault_of_merge (wrongs.Refused (refusals.NoRev asked youngest)) = Memory
fault_of_merge (wrongs.Refused (refusals.Missing rev)) = fault_from_wrong (wrongs.Refused (refusals.Missing rev))
fault_of_merge (wrongs.Refused (refusals.Small fault)) = fault_from_wrong (wrongs.Refused (refusals.Small fault))
fault_of_merge (wrongs.Damaged damage) = fault_from_wrong (wrongs.Damaged damage)
fault_of_merge (wrongs.Delta at) = fault_from_wrong (wrongs.Delta at)

-- (That a path is past a limit, or that something is lacking, does not come of edits that were done.)
abbrev pub answer_of_bar : ℕ → CommitBar → JobAnswer
answer_of_bar line (bars.Conflict path head) = Conflict head path
answer_of_bar line bars.RevsFull = Stopped line (Limit limits.RevsFull)
answer_of_bar line (bars.Stuck at) = Stopped line (Outside (outside.Stuck at))
answer_of_bar line (bars.Wrong wrong) = Stopped line (fault_of_merge wrong)
answer_of_bar line (bars.PastLimit limit) = Stopped line Memory
answer_of_bar line bars.Lacking = Stopped line Memory
answer_of_bar line bars.Memory = Stopped line Memory
