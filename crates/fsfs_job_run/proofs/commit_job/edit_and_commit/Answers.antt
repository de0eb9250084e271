use Rattle.std.proofs.Common.{◌<◌, ℕ, [], refl, sym, subst, arith}
use Rattle.fsfs_base.specs.Failures.{Rose}
use Rattle.fsfs_tree.specs.Dated.{last_of}
use Rattle.fsfs_tree.specs.Revisions.{tree_of}
use Rattle.fsfs_machine.specs.Kept.{IsIn}
use Rattle.fsfs_machine.specs.Machine.{revisions}
use Rattle.fsfs_machine.proofs.Growing.{revisions_length}
use Rattle.fsfs_turn.specs.Alone.{KnowsAlone}
use Rattle.fsfs_turn.specs.Bytes.{bytes_of}
use Rattle.fsfs_job_run.proofs.Causes.{fails_on, edit_fails}
use Rattle.fsfs_job_run.proofs.BenchCauses.{edit_told, edits_blamed}
use Rattle.fsfs_job_run.proofs.Composed.{stands_for, edited_so, stopped_so, edits_done, edits_stopped, edits_failed, txn_as, given_as}
use Rattle.fsfs_job_run.proofs.Full.{edits_unfull}
use Rattle.fsfs_job_run.proofs.Listing.{unlisted_behind}
use Rattle.fsfs_job_run.proofs.commit_job.edit_and_commit.Goals as goal

pub returns-in-Ok-clause-does : goal.returns-in-Ok-clause-does
returns-in-Ok-clause-does g c = λ v known none told given based on stands.
    let mid = c.edit-repo.result.0.turns in
    let after = c.commit_edited.result.0.turns in
    let job = c.args.job.now in
    let base = c.args.txn.base in
    let e = edits_done job.steps _ base _ c.edit-repo.result.1 _ (bytes_of v.seen) (tree_of (revisions v.seen)) (last_of (revisions v.seen)) (tree_of (revisions v.seen) base) c.in-Ok.is (c.edit-repo.ensures.edits v known based stands) in
    let s = stands_for v _ base _ job based e in
    edited_so (KnowsAlone after.layout after.floor after.young after.stuck (g.D.Disk.trace after.disk)) (Rose (g.D.Disk.faults mid.disk) (g.D.Disk.faults after.disk)) (Rose (g.D.Disk.faults c.args.repo.turns.disk) (g.D.Disk.faults after.disk)) c.args.micros base job c.commit_edited.result.1 s.0 v
    (λ r. omega (arith, r, c.edit-repo.ensures.later)) on (omega (arith, based, revisions_length v.seen)) s.2 c.commit_edited.ensures.plain
    (c.commit_edited.ensures.ends v s.0 (c.edit-repo.ensures.known v known) none told (subst (λ (n : ℕ). IsIn n v.given) (sym s.1.numbered) given)
    (txn_as v.seen _ _ _ _ _ s.0 c.edit-repo.ensures.name c.edit-repo.ensures.base s.1))

pub returns-in-Err-clause-does : goal.returns-in-Err-clause-does
returns-in-Err-clause-does g c = λ v known none told given based on stands.
    let mid = c.edit-repo.result.0.turns in
    let after = c.purged.result.turns in
    let job = c.args.job.now in
    let base = c.args.txn.base in
    stopped_so (KnowsAlone after.layout after.floor after.young after.stuck (g.D.Disk.trace after.disk)) (Rose (g.D.Disk.faults c.args.repo.turns.disk) (g.D.Disk.faults mid.disk)) (Rose (g.D.Disk.faults c.args.repo.turns.disk) (g.D.Disk.faults after.disk)) c.args.micros base _ job c.in-Err.field-0.line c.in-Err.field-0.fault v
    (λ r. omega (arith, r, c.purged.ensures.later)) on (omega (arith, based, revisions_length v.seen))
    (edits_stopped job.steps _ base _ c.edit-repo.result.1 c.in-Err.field-0 c.in-Err.field-0.line c.in-Err.field-0.fault (bytes_of v.seen) (tree_of (revisions v.seen)) (last_of (revisions v.seen)) (tree_of (revisions v.seen) base) c.in-Err.is refl refl (c.edit-repo.ensures.edits v known based stands))
    (edits_failed c.edit-repo.result.1 c.in-Err.field-0 c.in-Err.field-0.fault (Rose (g.D.Disk.faults c.args.repo.turns.disk) (g.D.Disk.faults mid.disk)) c.in-Err.is refl c.edit-repo.ensures.cause)
    (c.purged.ensures.leaves v (c.edit-repo.ensures.known v known) none (given_as _ _ v.given c.edit-repo.ensures.name given))

pub returns-in-Ok-clause-cause : goal.returns-in-Ok-clause-cause
returns-in-Ok-clause-cause g c =
    let start = g.D.Disk.faults c.args.repo.turns.disk in
    let mid = g.D.Disk.faults c.edit-repo.result.0.turns.disk in
    let now = g.D.Disk.faults c.commit_edited.result.0.turns.disk in
    fails_on (Rose mid now) (Rose start now) c.commit_edited.result.1 (λ r. omega (arith, r, c.edit-repo.ensures.later)) c.commit_edited.ensures.cause

pub returns-in-Err-clause-cause : goal.returns-in-Err-clause-cause
returns-in-Err-clause-cause g c =
    let start = g.D.Disk.faults c.args.repo.turns.disk in
    let mid = g.D.Disk.faults c.edit-repo.result.0.turns.disk in
    let now = g.D.Disk.faults c.purged.result.turns.disk in
    edit_fails (Rose start mid) (Rose start now) c.in-Err.field-0.line c.in-Err.field-0.fault (λ r. omega (arith, r, c.purged.ensures.later))
    (edits_failed c.edit-repo.result.1 c.in-Err.field-0 c.in-Err.field-0.fault (Rose start mid) c.in-Err.is refl c.edit-repo.ensures.cause)

pub returns-in-Ok-clause-listed : goal.returns-in-Ok-clause-listed
returns-in-Ok-clause-listed g c =
    let start = g.D.Disk.faults c.args.repo.turns.disk in
    let mid = g.D.Disk.faults c.edit-repo.result.0.turns.disk in
    let now = g.D.Disk.faults c.commit_edited.result.0.turns.disk in
    unlisted_behind (Rose mid now) (Rose start now) _ _ _ _ _ (λ r. omega (arith, r, c.edit-repo.ensures.later)) c.edit-repo.ensures.name c.edit-repo.ensures.listed c.commit_edited.ensures.listed

pub returns-in-Err-clause-listed : goal.returns-in-Err-clause-listed
returns-in-Err-clause-listed g c =
    let start = g.D.Disk.faults c.args.repo.turns.disk in
    let mid = g.D.Disk.faults c.edit-repo.result.0.turns.disk in
    let now = g.D.Disk.faults c.purged.result.turns.disk in
    unlisted_behind (Rose mid now) (Rose start now) _ _ _ _ _ (λ r. omega (arith, r, c.edit-repo.ensures.later)) c.edit-repo.ensures.name c.edit-repo.ensures.listed c.purged.ensures.listed

pub returns-in-Ok-clause-benches : goal.returns-in-Ok-clause-benches
returns-in-Ok-clause-benches g c = omega (arith, c.edit-repo.ensures.benches, c.commit_edited.ensures.benches)

pub returns-in-Err-clause-benches : goal.returns-in-Err-clause-benches
returns-in-Err-clause-benches g c =
    let stopped = c.in-Err.field-0 in
    let failed = edits_blamed c.edit-repo.result.1 stopped stopped.fault (0 < g.D.Bench.Bench.faults c.edit-repo.new.txn.own.bench) c.in-Err.is refl c.edit-repo.ensures.failed in
    let few = edit_told stopped.line stopped.fault (g.D.Bench.Bench.faults c.edit-repo.new.txn.own.bench) failed in
    omega (arith, few, c.edit-repo.ensures.benches, c.purged.ensures.benches)

pub returns-in-Ok-clause-unfull : goal.returns-in-Ok-clause-unfull
returns-in-Ok-clause-unfull g c = λ v known based stands. c.commit_edited.ensures.unfull

pub returns-in-Err-clause-unfull : goal.returns-in-Err-clause-unfull
returns-in-Err-clause-unfull g c = λ v known based stands.
    let steps = c.args.job.now.steps in
    let base = c.args.txn.base in
    let stopped = c.in-Err.field-0 in
    edits_unfull stopped.line (tree_of (revisions v.seen)) (last_of (revisions v.seen)) (bytes_of v.seen) base _ stopped.line (tree_of (revisions v.seen) base) [] steps stopped.fault
    (edits_stopped steps _ base _ c.edit-repo.result.1 stopped stopped.line stopped.fault (bytes_of v.seen) (tree_of (revisions v.seen)) (last_of (revisions v.seen)) (tree_of (revisions v.seen) base) c.in-Err.is refl refl (c.edit-repo.ensures.edits v known based stands))
