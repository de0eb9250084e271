use Rattle.std.proofs.Common.{Bool, refl, sym, subst}
use Rattle.std.specs.Prelude.{None, Result}
use Rattle.fsfs_base.proofs.ResultLemmas.{if_ok}
use Rattle.fsfs_cli.specs.declared.faults.fault.Fault.{Fault}
use Rattle.fsfs_turn.specs.Mountings.{RoseBy}
use Rattle.fsfs_workers.specs.JobsDone.{JobsDone}
use Rattle.fsfs_workers.specs.Runs.{PrintsChecked, run_scene}
use Rattle.fsfs_top.specs.declared.checked.JobsEnd.{JobsEnd}
use Rattle.fsfs_top.specs.Scripts.{RunsChecked, WorksBy}
use Rattle.fsfs_top.specs.Scripts as ends
use Rattle.fsfs_top.proofs.Checking.{laid_part, ran_checked, told_sound}
use Rattle.fsfs_top.proofs.checked.run_checked.Goals as goal

pub returns-in-Err-clause-ran : goal.returns-in-Err-clause-ran
returns-in-Err-clause-ran g c =
    let now = c.do_on-disk.result.0 in
    let works = subst (λ (done : Result JobsDone Fault). WorksBy c.args.job_run.now c.args.known c.args.micros (g.D.Disk.faults c.args.disk) (g.D.Disk.faults now) (λ n. RoseBy n 0 (g.D.Disk.bench_faults now)) (g.D.Disk.trace c.args.disk) (g.D.Disk.trace now)
    (g.I.Source.remaining c.args.input.now) (g.I.Source.remaining c.do_on-disk.new.input) (g.I.Source.faults c.args.input.now) (g.I.Source.faults c.do_on-disk.new.input) done) c.in-Err.is c.do_on-disk.ensures.works in
    subst (λ (end : JobsEnd). RunsChecked c.args.job_run.now c.args.known c.args.micros (g.D.Disk.faults c.args.disk) (g.D.Disk.faults now) (λ n. RoseBy n 0 (g.D.Disk.bench_faults now))
    (run_scene (g.D.Disk.trace c.args.disk) (g.I.Source.remaining c.args.input.now) (g.I.Source.faults c.args.input.now) (g.O.Sink.written c.args.out.now) (g.O.Sink.faults c.args.out.now))
    (run_scene (g.D.Disk.trace now) (g.I.Source.remaining c.do_on-disk.new.input) (g.I.Source.faults c.do_on-disk.new.input) (g.O.Sink.written c.args.out.now) (g.O.Sink.faults c.args.out.now)) end)
    (sym c.of_jobs.ensures) (ends.NotDone c.in-Err.fault (works (g.O.Sink.written c.args.out.now) (g.O.Sink.written c.args.out.now) (g.O.Sink.faults c.args.out.now) (g.O.Sink.faults c.args.out.now)) refl refl)

pub returns-clause-ran : goal.returns-clause-ran
returns-clause-ran g c =
    let told = g.D.Disk.trace in
    let count = g.D.Disk.faults in
    let benches = g.D.Disk.bench_faults in
    let start = c.args.disk in
    let mid = c.do_on-disk.result.0 in
    let last = c.check_on-disk.result.0 in
    let unsound = c.check_on-disk.result.1 in
    let done = c.in-Ok.done in
    let works = subst (λ (r : Result JobsDone Fault). WorksBy c.args.job_run.now c.args.known c.args.micros (count start) (count mid) (λ n. RoseBy n 0 (benches mid)) (told start) (told mid)
    (g.I.Source.remaining c.args.input.now) (g.I.Source.remaining c.do_on-disk.new.input) (g.I.Source.faults c.args.input.now) (g.I.Source.faults c.do_on-disk.new.input) r) c.in-Ok.is c.do_on-disk.ensures.works in
    let laid = laid_part c.args.job_run.now c.args.known (told start) done.layout done.floor (if_ok c.do_on-disk.result.1 done _ c.in-Ok.is c.do_on-disk.ensures.laid) in
    let lines = subst (λ (sound : Bool). PrintsChecked done.answers.items (record { packed = None; sound = sound }) done.youngest (g.O.Sink.written c.args.out.now) (g.O.Sink.written c.tell-ended.new.out) (g.O.Sink.faults c.args.out.now) (g.O.Sink.faults c.tell-ended.new.out) c.tell-ended.result)
    (told_sound unsound c.is_none-sound.result c.is_none-sound.ensures) c.tell-ended.ensures.printed in
    ran_checked c.args.job_run.now c.args.known c.args.micros (count start) (count mid) (count last) (benches mid) (benches last) (told start) (told mid) (told last) (g.I.Source.remaining c.args.input.now) (g.I.Source.remaining c.do_on-disk.new.input) (g.I.Source.faults c.args.input.now) (g.I.Source.faults c.do_on-disk.new.input)
    done (g.O.Sink.written c.args.out.now) (g.O.Sink.written c.tell-ended.new.out) (g.O.Sink.faults c.args.out.now) (g.O.Sink.faults c.tell-ended.new.out) c.tell-ended.result unsound
    works c.check_on-disk.ensures.same c.check_on-disk.ensures.benches c.check_on-disk.ensures.later laid c.check_on-disk.ensures.checked lines
