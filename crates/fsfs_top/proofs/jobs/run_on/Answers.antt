use Rattle.std.proofs.Common.{inl, refl, sym, subst}
use Rattle.fsfs_workers.specs.Runs.{run_scene}
use Rattle.fsfs_top.specs.declared.checked.JobsEnd.{JobsEnd}
use Rattle.fsfs_top.specs.Scripts.{RunsAsAsked}
use Rattle.fsfs_top.proofs.jobs.run_on.Goals as goal

pub returns-clause-ran : goal.returns-clause-ran
returns-clause-ran g c =
    let start = c.args.disk in
    let last = c.run_alone-disk.result.0 in
    subst (λ (end : JobsEnd). RunsAsAsked c.args.job_run.now c.args.known c.args.micros (g.D.Disk.faults start) (g.D.Disk.faults last) 0 (g.D.Disk.bench_faults last)
    (run_scene (g.D.Disk.trace start) (g.I.Source.remaining c.args.input.now) (g.I.Source.faults c.args.input.now) (g.O.Sink.written c.args.out.now) (g.O.Sink.faults c.args.out.now))
    (run_scene (g.D.Disk.trace last) (g.I.Source.remaining c.run_alone-disk.new.input) (g.I.Source.faults c.run_alone-disk.new.input) (g.O.Sink.written c.run_alone-disk.new.out) (g.O.Sink.faults c.run_alone-disk.new.out)) end)
    (sym c.of_jobs.ensures) (inl (c.if-job_run.false, record { unasked = c.if-job_run-2.false; unpacked = refl; unsound = refl; ran = c.run_alone-disk.ensures.ran }))
