use Rattle.std.proofs.Common.{[], sym, ap, subst, ◌∙◌, arith}
use Rattle.std.specs.Prelude.{option_map}
use Rattle.fsfs_tree.specs.Dated.{last_of}
use Rattle.fsfs_tree.specs.Revisions.{tree_of}
use Rattle.fsfs_machine.specs.Machine.{revisions}
use Rattle.fsfs_machine.proofs.Growing.{revisions_length}
use Rattle.fsfs_turn.specs.Bytes.{bytes_of}
use Rattle.fsfs_disk.specs.Trace.{labels_now}
use Rattle.fsfs_turn.specs.Telling.{OwnedState}
use Rattle.fsfs_turn.specs.OwnedLemmas.{owned_benches_tell}
use Rattle.fsfs_repo.specs.Owned.Alone.{KnowsIn}
use Rattle.fsfs_job_run.proofs.BenchCauses.{bench_failed}
use Rattle.fsfs_job_run.proofs.Composed.{edits_as, failed_as}
use Rattle.fsfs_job_run.proofs.Seen.{revisions_seen}
use Rattle.fsfs_job_run.proofs.commit_job.edit.Goals as goal

pub returns-clause-edits : goal.returns-clause-edits
returns-clause-edits g c = λ v known based stands.
    let turns = c.args.repo.turns in
    let told = c.reader-reader.ensures.told v known in
    let base = c.args.txn.now.base in
    edits_as c.as_slice.result.now c.args.steps.now _ base _ c.do_edits-done.result (bytes_of v.seen) (tree_of (revisions v.seen)) (last_of (revisions v.seen)) (tree_of (revisions v.seen) base) c.as_slice.ensures
    (c.do_edits-done.ensures.edits (λ x. owned_benches_tell turns.layout turns.floor turns.young turns.stuck (g.D.Disk.trace turns.disk) (g.D.Bench.Bench.contents x.bench) v (g.met.D.Disk.benches_tell turns.disk x.bench) known.0)
    (bytes_of v.seen) (tree_of (revisions v.seen)) (last_of (revisions v.seen)) (tree_of (revisions v.seen) base) [] told.revs told.youngest told.shown.each (revisions_seen turns.layout turns.floor turns.young turns.stuck (g.D.Disk.trace turns.disk) v known) (omega (arith, based, revisions_length v.seen)) stands)

pub returns-clause-known : goal.returns-clause-known
returns-clause-known g c = λ v known. c.of_reader.ensures.known v (subst (λ s. KnowsIn s v) (sym c.do_edits-done.ensures.kept.below) (c.reader-reader.ensures.told v known).known)

pub returns-clause-cause : goal.returns-clause-cause
returns-clause-cause g c = failed_as c.do_edits-done.result _ _ _ _ c.reader-reader.ensures.faults (sym c.of_reader.ensures.faults) c.do_edits-done.ensures.disk.failed

pub returns-clause-listed : goal.returns-clause-listed
returns-clause-listed g c = ap (λ (s : OwnedState). option_map labels_now s.trace) (c.of_reader.ensures.below ∙ c.do_edits-done.ensures.kept.below ∙ c.reader-reader.ensures.below)

pub returns-clause-benches : goal.returns-clause-benches
returns-clause-benches g c = ap (λ (s : OwnedState). s.bench_faults) (c.of_reader.ensures.below ∙ c.do_edits-done.ensures.kept.below ∙ c.reader-reader.ensures.below)

pub returns-clause-failed : goal.returns-clause-failed
returns-clause-failed g c = bench_failed c.do_edits-done.result _ _ c.do_edits-done.ensures.bench.failed
