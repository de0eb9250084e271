use Rattle.std.proofs.Common.{inl, sym, subst}
use Rattle.fsfs_base.specs.Failures.{Rose}
use Rattle.fsfs_script.specs.declared.job_lines.job.Job.{Job}
use Rattle.fsfs_turn.specs.Alone.{KnowsAlone}
use Rattle.fsfs_job_run.specs.Running.{DoesSo, IfCounted, StopsOver}
use Rattle.fsfs_job_run.proofs.ListedLemmas.{none_begun}
use Rattle.fsfs_repo.proofs.Crashes.{survives}
use Rattle.fsfs_job_run.proofs.job.do_job.Goals as goal

pub returns-in-Commit-clause-does : goal.returns-in-Commit-clause-does
returns-in-Commit-clause-does g c = λ v known none.
    let after = c.commit_job.result.0.turns in
    subst (λ (j : Job). DoesSo (KnowsAlone after.layout after.floor after.young after.stuck (g.D.Disk.trace after.disk)) (Rose (g.D.Disk.faults c.args.repo.turns.disk) (g.D.Disk.faults after.disk)) c.args.micros j c.commit_job.result.1 v) (sym c.in-Commit.is)
    (c.commit_job.ensures.does v known none).0

pub returns-in-Commit-clause-counted : goal.returns-in-Commit-clause-counted
returns-in-Commit-clause-counted g c = λ v known none.
    subst (λ (j : Job). IfCounted j c.commit_job.result.1 (StopsOver v.seen)) (sym c.in-Commit.is) (c.commit_job.ensures.does v known none).1

pub returns-in-Commit-clause-crashes : goal.returns-in-Commit-clause-crashes
returns-in-Commit-clause-crashes g c = λ u known. let turns = c.commit_job.result.0.turns in survives turns.layout turns.floor turns.young turns.stuck (g.D.Disk.trace turns.disk) u known

pub returns-in-Read-clause-does : goal.returns-in-Read-clause-does
returns-in-Read-clause-does g c = λ v known none.
    let after = c.read_text.result.0.turns in
    subst (λ (j : Job). DoesSo (KnowsAlone after.layout after.floor after.young after.stuck (g.D.Disk.trace after.disk)) (Rose (g.D.Disk.faults c.args.repo.turns.disk) (g.D.Disk.faults after.disk)) c.args.micros j c.read_text.result.1 v) (sym c.in-Read.is) (c.read_text.ensures.does v c.args.micros known none)

pub returns-in-Read-clause-counted : goal.returns-in-Read-clause-counted
returns-in-Read-clause-counted g c = λ v known none. subst (λ (j : Job). IfCounted j c.read_text.result.1 (StopsOver v.seen)) (sym c.in-Read.is) tt

pub returns-in-Read-clause-crashes : goal.returns-in-Read-clause-crashes
returns-in-Read-clause-crashes g c = λ u known. let turns = c.read_text.result.0.turns in survives turns.layout turns.floor turns.young turns.stuck (g.D.Disk.trace turns.disk) u known

pub returns-in-Commit-clause-listed : goal.returns-in-Commit-clause-listed
returns-in-Commit-clause-listed g c = c.commit_job.ensures.listed

pub returns-in-Read-clause-listed : goal.returns-in-Read-clause-listed
returns-in-Read-clause-listed g c = λ least has. inl (none_begun least 1 _ _ c.read_text.ensures.listed)

pub returns-in-Commit-clause-full : goal.returns-in-Commit-clause-full
returns-in-Commit-clause-full g c = c.commit_job.ensures.full

pub returns-in-Read-clause-full : goal.returns-in-Read-clause-full
returns-in-Read-clause-full g c = λ v known none told. let h = c.read_text.ensures.unfull in absurd cc

pub returns-in-Commit-clause-stays : goal.returns-in-Commit-clause-stays
returns-in-Commit-clause-stays g c = c.commit_job.ensures.stays

pub returns-in-Read-clause-stays : goal.returns-in-Read-clause-stays
returns-in-Read-clause-stays g c = λ last. c.read_text.ensures.stays
