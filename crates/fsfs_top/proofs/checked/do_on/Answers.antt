use Rattle.std.proofs.Common.{◌≡◌, arith}
use Rattle.fsfs_turn.specs.Mountings.{RoseBy}
use Rattle.fsfs_top.proofs.Checking.{by_one, by_two}
use Rattle.fsfs_top.proofs.checked.do_on.Goals as goal

pub returns-then-job_run-eq1-clause-works : goal.returns-then-job_run-eq1-clause-works
returns-then-job_run-eq1-clause-works g c =
    let start = c.args.disk in
    let end = c.do_script.result.0 in
    by_one c.args.job_run.now c.args.known c.args.micros (g.D.Disk.faults start) (g.D.Disk.faults end) (λ n. RoseBy n 0 (g.D.Disk.bench_faults end)) (g.D.Disk.trace start) (g.D.Disk.trace end) (g.I.Source.remaining c.args.input.now) (g.I.Source.remaining c.do_script.new.input) (g.I.Source.faults c.args.input.now) (g.I.Source.faults c.do_script.new.input)
    c.do_script.result.1 c.if-job_run-eq1.true c.do_script.ensures.works

pub returns-else-job_run-eq1-clause-works : goal.returns-else-job_run-eq1-clause-works
returns-else-job_run-eq1-clause-works g c =
    let start = c.args.disk in
    let end = c.do_script_by_two.result.0 in
    let two : c.args.job_run.now.workers ≡ 2 = omega (arith, c.requires.workers.0, c.requires.workers.1, c.if-job_run-eq1.false) in
    by_two c.args.job_run.now c.args.known c.args.micros (g.D.Disk.faults start) (g.D.Disk.faults end) (λ n. RoseBy n 0 (g.D.Disk.bench_faults end)) (g.D.Disk.trace start) (g.D.Disk.trace end) (g.I.Source.remaining c.args.input.now) (g.I.Source.remaining c.do_script_by_two.new.input) (g.I.Source.faults c.args.input.now) (g.I.Source.faults c.do_script_by_two.new.input)
    c.do_script_by_two.result.1 two c.do_script_by_two.ensures.works
