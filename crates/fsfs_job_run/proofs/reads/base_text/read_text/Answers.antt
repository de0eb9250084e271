use Rattle.std.proofs.Common.{◌≤◌, List, sym, ap, subst, ◌∙◌, arith}
use Rattle.std.specs.Prelude.{option_map}
use Rattle.fsfs_disk.specs.Trace.{labels_now}
use Rattle.fsfs_turn.specs.Telling.{OwnedState}
use Rattle.fsfs_tree.specs.Dated.{last_of}
use Rattle.fsfs_tree.specs.Revisions.{tree_of}
use Rattle.fsfs_machine.specs.declared.machine.Recorded.{Recorded}
use Rattle.fsfs_machine.specs.Machine.{revisions}
use Rattle.fsfs_turn.specs.Alone.{KnowsAlone}
use Rattle.fsfs_turn.specs.Bytes.{bytes_of}
use Rattle.fsfs_repo.specs.Owned.Alone.{KnowsIn}
use Rattle.fsfs_job_run.proofs.Based.{no_base_read, no_base_outside}
use Rattle.fsfs_job_run.proofs.BenchCauses.{request_told, read_told}
use Rattle.fsfs_job_run.proofs.Causes.{request_fails}
use Rattle.fsfs_job_run.proofs.Full.{request_unfull}
use Rattle.fsfs_job_run.proofs.Reading.{read_so, fails_as}
use Rattle.fsfs_job_run.proofs.reads.base_text.read_text.Goals as goal

pub returns-in-Err-clause-does : goal.returns-in-Err-clause-does
returns-in-Err-clause-does g c = λ v moment known none.
    let job = c.args.job.now in
    let l = c.in-Err.ensures.looked v known none in
    let lacks = c.in-Err.ensures.lacks v known none in
    (l.0, l.1, no_base_read moment job c.in-Err.fault v l.0 l.2 lacks, no_base_outside _ job.base _ job.line c.in-Err.fault l.0 lacks)

pub returns-clause-does : goal.returns-clause-does
returns-clause-does g c = λ v moment known none.
    let after = c.of_reader.result.turns in
    let job = c.args.job.now in
    let l = c.in-Ok.ensures.looked v known none in
    let b = c.in-Ok.ensures.base v known none in
    let told = c.reader-reader.ensures.told l.0 l.1 in
    let le : c.in-Ok.base ≤ last_of (revisions l.0.seen) = subst (λ (h : List Recorded). c.in-Ok.base ≤ last_of (revisions h)) (sym l.2.stays.seen) b.1 in
    read_so (KnowsAlone after.layout after.floor after.young after.stuck (g.D.Disk.trace after.disk)) _ moment c.in-Ok.base job c.read_job-answer.result v l.0 (c.of_reader.ensures.known l.0 (subst (λ s. KnowsIn s l.0) (sym c.read_job-answer.ensures.kept.below) told.known)) l.2 b.0 b.1
    (c.read_job-answer.ensures.told (bytes_of l.0.seen) (tree_of (revisions l.0.seen) c.in-Ok.base) (λ r low. told.revs r (omega (arith, low, le))) (told.shown.each c.in-Ok.base le))
    (fails_as c.read_job-answer.result _ _ _ _ (c.reader-reader.ensures.faults ∙ c.in-Ok.ensures.faults) (sym c.of_reader.ensures.faults) c.read_job-answer.ensures.cause.failed)

pub returns-in-Err-clause-cause : goal.returns-in-Err-clause-cause
returns-in-Err-clause-cause g c = request_fails _ c.args.job.now.line c.in-Err.fault c.in-Err.ensures.asked

pub returns-clause-cause : goal.returns-clause-cause
returns-clause-cause g c = fails_as c.read_job-answer.result _ _ _ _ (c.reader-reader.ensures.faults ∙ c.in-Ok.ensures.faults) (sym c.of_reader.ensures.faults) c.read_job-answer.ensures.cause.failed

pub returns-in-Err-clause-listed : goal.returns-in-Err-clause-listed
returns-in-Err-clause-listed g c = ap (λ (s : OwnedState). option_map labels_now s.trace) c.in-Err.ensures.same

pub returns-clause-listed : goal.returns-clause-listed
returns-clause-listed g c = ap (λ (s : OwnedState). option_map labels_now s.trace) (c.of_reader.ensures.below ∙ c.read_job-answer.ensures.kept.below ∙ c.reader-reader.ensures.below ∙ c.in-Ok.ensures.same)

pub returns-in-Err-clause-benches : goal.returns-in-Err-clause-benches
returns-in-Err-clause-benches g c =
    let same = ap (λ (s : OwnedState). s.bench_faults) c.in-Err.ensures.same in
    let told = request_told c.args.job.now.line c.in-Err.fault c.in-Err.ensures.asked in
    omega (arith, same, told)

pub returns-clause-benches : goal.returns-clause-benches
returns-clause-benches g c =
    let same = ap (λ (s : OwnedState). s.bench_faults) (c.of_reader.ensures.below ∙ c.read_job-answer.ensures.kept.below ∙ c.reader-reader.ensures.below ∙ c.in-Ok.ensures.same) in
    let told = read_told c.read_job-answer.result c.read_job-answer.ensures.no_bench in
    omega (arith, same, told)

pub returns-in-Err-clause-unfull : goal.returns-in-Err-clause-unfull
returns-in-Err-clause-unfull g c = request_unfull c.args.job.now.line c.in-Err.fault c.in-Err.ensures.asked

pub returns-in-Err-clause-stays : goal.returns-in-Err-clause-stays
returns-in-Err-clause-stays g c = c.in-Err.ensures.same

pub returns-clause-stays : goal.returns-clause-stays
returns-clause-stays g c = c.of_reader.ensures.below ∙ c.read_job-answer.ensures.kept.below ∙ c.reader-reader.ensures.below ∙ c.in-Ok.ensures.same
