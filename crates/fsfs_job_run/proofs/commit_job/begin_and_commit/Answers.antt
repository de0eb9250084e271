use Rattle.std.proofs.Common.{◌≡◌, true, ⊎_elim, sym, ap, subst, ◌∙◌, arith}
use Rattle.fsfs_base.specs.Failures.{Rose}
use Rattle.fsfs_base.proofs.ResultLemmas.{if_ok, if_err, on_ok, on_err}
use Rattle.fsfs_tree.specs.Revisions.{tree_of}
use Rattle.fsfs_machine.specs.Machine.{revisions}
use Rattle.fsfs_machine.proofs.Growing.{revisions_length}
use Rattle.fsfs_turn.specs.Alone.{KnowsAlone}
use Rattle.fsfs_turn.specs.Bytes.{bytes_of}
use Rattle.fsfs_turn.specs.Mountings.{RoseBy}
use Rattle.fsfs_repo.specs.BeginFaults.{IfDisk, bench_faults_in}
use Rattle.fsfs_jobs.specs.declared.answer.JobAnswer.TheVariants.{Stopped}
use Rattle.fsfs_job_run.specs.Running.{CommitsSo}
use Rattle.fsfs_job_run.specs.TextReads.{IfAnswerFails}
use Rattle.fsfs_job_run.proofs.Causes.{fails_on, begin_fails}
use Rattle.fsfs_job_run.specs.Faults.{fault_of_begin}
use Rattle.fsfs_job_run.specs.Serial.Jobs.{bench_told, tells_full}
use Rattle.fsfs_job_run.proofs.BenchCauses.{begin_told}
use Rattle.fsfs_job_run.proofs.Begun.{lacking_so, unbegun_so}
use Rattle.fsfs_job_run.proofs.Composed.{begun_so}
use Rattle.fsfs_job_run.proofs.Full.{begun_unfull, cause_unfull}
use Rattle.fsfs_job_run.proofs.Listing.{begun_lists, new_from, unbegun_lists}
use Rattle.fsfs_job_run.proofs.Seen.{trees_seen}
use Rattle.fsfs_job_run.proofs.Whole.{root_whole}
use Rattle.fsfs_job_run.proofs.commit_job.begin_and_commit.Goals as goal

pub returns-in-Ok-clause-does : goal.returns-in-Ok-clause-does
returns-in-Ok-clause-does g c = λ v known none told on le.
    let after = c.edit_and_commit.result.0.turns in
    let same = if_ok c.begin-repo.result.1 c.in-Ok.txn (λ z. z.base ≡ c.args.base) c.in-Ok.is c.begin-repo.ensures.base in
    let d = if_ok c.begin-repo.result.1 c.in-Ok.txn _ c.in-Ok.is (c.begin-repo.ensures.begun v known none) in
    begun_so (KnowsAlone after.layout after.floor after.young after.stuck (g.D.Disk.trace after.disk)) (Rose (g.D.Disk.faults c.begin-repo.result.0.turns.disk) (g.D.Disk.faults after.disk)) (Rose (g.D.Disk.faults c.args.repo.turns.disk) (g.D.Disk.faults after.disk)) c.args.micros c.args.base c.in-Ok.txn.base _ _ c.args.job.now
    c.edit_and_commit.result.1 v d.0 (λ r. omega (arith, r, c.begin-repo.ensures.later)) known.1.own d.1.1.own told on same d.2 (λ out still given based so stands. c.edit_and_commit.ensures.does d.0 d.1 out still given based so stands)

pub returns-in-Err-clause-does : goal.returns-in-Err-clause-does
returns-in-Err-clause-does g c = λ v known none told on le.
    let after = c.begin-repo.result.0.turns in
    let rose = Rose (g.D.Disk.faults c.args.repo.turns.disk) (g.D.Disk.faults after.disk) in
    let job = c.args.job.now in
    let disk = if_err c.begin-repo.result.1 c.in-Err.why (λ why. IfDisk why rose) c.in-Err.is c.begin-repo.ensures.cause in
    subst (λ f. CommitsSo (KnowsAlone after.layout after.floor after.young after.stuck (g.D.Disk.trace after.disk)) rose c.args.micros job (Stopped job.line f) v) (sym c.of_begin-fault.ensures)
    (⊎_elim (λ d. unbegun_so (KnowsAlone after.layout after.floor after.young after.stuck (g.D.Disk.trace after.disk)) rose c.args.micros c.args.base job c.in-Err.why v d.0 d.1 known.1.own d.1.1.own told le d.2
    (λ wrong less root. root_whole (bytes_of d.0.seen) c.args.base (tree_of (revisions d.0.seen) c.args.base) wrong ((trees_seen after.layout after.floor after.young after.stuck (g.D.Disk.trace after.disk) d.0 d.1).each c.args.base (omega (arith, less, revisions_length d.0.seen))) root) d.3 disk)
    (λ m. lacking_so (KnowsAlone after.layout after.floor after.young after.stuck (g.D.Disk.trace after.disk)) rose c.args.micros job c.in-Err.why v m.2.0 m.2.1 known.1.own m.2.1.1.own m.2.2 m.2.3 m.1 disk)
    (if_err c.begin-repo.result.1 c.in-Err.why _ c.in-Err.is (c.begin-repo.ensures.refused v known none)))

pub returns-in-Ok-clause-cause : goal.returns-in-Ok-clause-cause
returns-in-Ok-clause-cause g c =
    let start = g.D.Disk.faults c.args.repo.turns.disk in
    let mid = g.D.Disk.faults c.begin-repo.result.0.turns.disk in
    let now = g.D.Disk.faults c.edit_and_commit.result.0.turns.disk in
    fails_on (Rose mid now) (Rose start now) c.edit_and_commit.result.1 (λ r. omega (arith, r, c.begin-repo.ensures.later)) c.edit_and_commit.ensures.cause

pub returns-in-Err-clause-cause : goal.returns-in-Err-clause-cause
returns-in-Err-clause-cause g c =
    let rose = Rose (g.D.Disk.faults c.args.repo.turns.disk) (g.D.Disk.faults c.begin-repo.result.0.turns.disk) in
    let job = c.args.job.now in
    subst (λ f. IfAnswerFails (Stopped job.line f) rose) (sym c.of_begin-fault.ensures)
    (begin_fails rose job.line c.in-Err.why (if_err c.begin-repo.result.1 c.in-Err.why (λ why. IfDisk why rose) c.in-Err.is c.begin-repo.ensures.cause))

pub returns-in-Ok-clause-listed : goal.returns-in-Ok-clause-listed
returns-in-Ok-clause-listed g c = λ least has.
    let start = g.D.Disk.faults c.args.repo.turns.disk in
    let mid = g.D.Disk.faults c.begin-repo.result.0.turns.disk in
    let now = g.D.Disk.faults c.edit_and_commit.result.0.turns.disk in
    let s = c.args.repo.turns in
    begun_lists (Rose mid now) (Rose start now) least _ _ _ _
    (new_from (KnowsAlone s.layout s.floor s.young s.stuck (g.D.Disk.trace s.disk)) least c.in-Ok.txn.own.txn.number.number has (λ v known none. let d = if_ok c.begin-repo.result.1 c.in-Ok.txn _ c.in-Ok.is (c.begin-repo.ensures.begun v known none) in d.2.above)) (λ r. omega (arith, r, c.begin-repo.ensures.later)) (if_ok c.begin-repo.result.1 c.in-Ok.txn _ c.in-Ok.is c.begin-repo.ensures.listed) c.edit_and_commit.ensures.listed

pub returns-in-Err-clause-listed : goal.returns-in-Err-clause-listed
returns-in-Err-clause-listed g c = λ least has.
    let s = c.args.repo.turns in
    unbegun_lists _ (KnowsAlone s.layout s.floor s.young s.stuck (g.D.Disk.trace s.disk)) least c.args.base _ _ has (on_err c.begin-repo.result.1 c.in-Err.why _ c.in-Err.is c.begin-repo.ensures.unlisted)

pub returns-in-Ok-clause-benches : goal.returns-in-Ok-clause-benches
returns-in-Ok-clause-benches g c =
    let count = g.D.Disk.bench_faults in
    let begun = subst (λ r. RoseBy (bench_faults_in r) (count c.args.repo.turns.disk) (count c.begin-repo.result.0.turns.disk)) c.in-Ok.is c.begin-repo.ensures.benches in
    omega (arith, begun, c.edit_and_commit.ensures.benches)

pub returns-in-Err-clause-benches : goal.returns-in-Err-clause-benches
returns-in-Err-clause-benches g c =
    let count = g.D.Disk.bench_faults in
    let line = c.args.job.now.line in
    let begun = subst (λ r. RoseBy (bench_faults_in r) (count c.args.repo.turns.disk) (count c.begin-repo.result.0.turns.disk)) c.in-Err.is c.begin-repo.ensures.benches in
    let told = ap (λ f. bench_told (Stopped line f)) c.of_begin-fault.ensures ∙ begin_told line c.in-Err.why in
    omega (arith, begun, told)

pub returns-in-Ok-clause-full : goal.returns-in-Ok-clause-full
returns-in-Ok-clause-full g c = λ v known none told.
    let same = if_ok c.begin-repo.result.1 c.in-Ok.txn (λ z. z.base ≡ c.args.base) c.in-Ok.is c.begin-repo.ensures.base in
    let d = if_ok c.begin-repo.result.1 c.in-Ok.txn _ c.in-Ok.is (c.begin-repo.ensures.begun v known none) in
    begun_unfull c.args.base c.in-Ok.txn.base _ _ c.edit_and_commit.result.1 v d.0 same d.2 (λ based stands. c.edit_and_commit.ensures.unfull d.0 d.1 based stands) told

pub returns-in-Err-clause-full : goal.returns-in-Err-clause-full
returns-in-Err-clause-full g c = λ v known none told.
    let line = c.args.job.now.line in
    let told_so : tells_full (Stopped line (fault_of_begin c.in-Err.why)) ≡ true = ap (λ f. tells_full (Stopped line f)) (sym c.of_begin-fault.ensures) ∙ told in
    ⊎_elim (λ d. cause_unfull c.args.base line c.in-Err.why d.0 d.3 told_so) (λ m. m.0) (if_err c.begin-repo.result.1 c.in-Err.why _ c.in-Err.is (c.begin-repo.ensures.refused v known none))

pub returns-in-Ok-clause-stays : goal.returns-in-Ok-clause-stays
returns-in-Ok-clause-stays g c = λ last. absurd (on_ok c.begin-repo.result.1 c.in-Ok.txn ⊥ c.in-Ok.is (c.begin-repo.ensures.full last).0)

pub returns-in-Err-clause-stays : goal.returns-in-Err-clause-stays
returns-in-Err-clause-stays g c = λ last. (c.begin-repo.ensures.full last).1
