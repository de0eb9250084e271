use Rattle.std.proofs.Common.{◌≡◌, ◌∙◌, ℕ, ap, sym, subst, refl, inl, inr}
use Rattle.std.specs.Prelude.{Option}
use Rattle.fsfs_base.specs.Failures.{added_count}
use Rattle.fsfs_cli.specs.declared.faults.fault.Fault.TheVariants.{Outside}
use Rattle.fsfs_cli.specs.declared.faults.outside_fault.OutsideFault.TheVariants.{Mount}
use Rattle.fsfs_disk.specs.Trace.{Trace}
use Rattle.fsfs_workers.specs.Runs.{run_scene}
use Rattle.fsfs_top.specs.declared.checked.JobsEnd.{JobsEnd}
use Rattle.fsfs_top.specs.Transactions.{OpeningIsDecided}
use Rattle.fsfs_top.specs.Scripts.{HasHistory, ended_fault, RunIsDecided, RunsAsAsked}
use Rattle.fsfs_top.proofs.FilesDecide.{opening_outside}
use Rattle.fsfs_top.proofs.JobsDecided.{end_decided}
use Rattle.fsfs_top.proofs.WorkersTold.{asked_by_host}
use Rattle.fsfs_top.proofs.jobs.run_at.Goals as goal

pub run_on-disk-requires-clause-right : goal.run_on-disk-requires-clause-right
run_on-disk-requires-clause-right g c = λ κs within. c.in-Ok.ensures.right tt

pub run_on-disk-requires-clause-knows : goal.run_on-disk-requires-clause-knows
run_on-disk-requires-clause-knows g c = λ κs within known. subst HasHistory (sym c.in-Ok.ensures.disk) (c.requires.knows known)

pub returns-in-Err-clause-ran : goal.returns-in-Err-clause-ran
returns-in-Err-clause-ran g c = inl (c.of_jobs.ensures, c.in-Err.ensures.cause.failed, c.in-Err.ensures.err, refl, refl)

pub returns-clause-ran : goal.returns-clause-ran
returns-clause-ran g c =
    let told = g.H.Mounted.Disk.trace in
    let count = g.H.Mounted.Disk.faults in
    let ran = c.run_on-disk.result in
    let path : g.H.Mounted.Disk.mount_path ran.0 ≡ c.args.repos.now = c.run_on-disk.ensures.mounted ∙ c.in-Ok.ensures.path in
    let back : g.H.Host.disk_at c.unmount.new.self c.args.repos.now ≡ told ran.0 = ap (g.H.Host.disk_at c.unmount.new.self) (sym path) ∙ c.unmount.ensures.back in
    let old = g.H.Host.disk_faults c.args.host.now in
    let new = g.H.Host.disk_faults c.unmount.new.self in
    let counted = c.unmount.ensures.faults ∙ ap (λ (n : ℕ). added_count n (count ran.0)) c.in-Ok.ensures.same_faults in
    let benches = g.H.Mounted.Disk.bench_faults in
    let then = g.H.Host.bench_faults c.args.host.now in
    let now = g.H.Host.bench_faults c.unmount.new.self in
    let counts = c.unmount.ensures.benches ∙ ap (λ (n : ℕ). added_count n (benches ran.0)) c.in-Ok.ensures.same_benches in
    let scene_of = λ (told : Option Trace). run_scene told (g.I.Source.remaining c.args.input.now) (g.I.Source.faults c.args.input.now) (g.O.Sink.written c.args.out.now) (g.O.Sink.faults c.args.out.now) in
    let scene_at = λ (told : Option Trace). run_scene told (g.I.Source.remaining c.run_on-disk.new.input) (g.I.Source.faults c.run_on-disk.new.input) (g.O.Sink.written c.run_on-disk.new.out) (g.O.Sink.faults c.run_on-disk.new.out) in
    inr (
      c.micros-micros.result,
      c.micros-micros.ensures.value,
      subst (λ (x : Option Trace). RunsAsAsked c.args.job_run.now c.args.known c.micros-micros.result old new then now (scene_of x) (scene_at (g.H.Host.disk_at c.unmount.new.self c.args.repos.now)) ran.1) c.in-Ok.ensures.disk
          (subst (λ (y : Option Trace). RunsAsAsked c.args.job_run.now c.args.known c.micros-micros.result old new then now (scene_of (told c.in-Ok.disk)) (scene_at y) ran.1) (sym back)
          (asked_by_host c.args.known c.micros-micros.result (count c.in-Ok.disk) (count ran.0) old new 0 (benches ran.0) then now c.in-Ok.ensures.new counted refl counts (scene_of (told c.in-Ok.disk)) (scene_at (told ran.0)) c.args.job_run.now ran.1 c.run_on-disk.ensures.ran)),
    )

pub returns-in-Err-clause-decided : goal.returns-in-Err-clause-decided
returns-in-Err-clause-decided g c = λ which. subst (λ (e : JobsEnd). OpeningIsDecided (g.H.Host.disk_at c.args.host.now c.args.repos.now) (ended_fault e.ended)) (sym c.of_jobs.ensures) (opening_outside (g.H.Host.disk_at c.args.host.now c.args.repos.now) (Outside Mount) tt)

pub returns-clause-decided : goal.returns-clause-decided
returns-clause-decided g c =
    let told = g.H.Mounted.Disk.trace in
    let count = g.H.Mounted.Disk.faults in
    let ran = c.run_on-disk.result in
    let before = run_scene (told c.in-Ok.disk) (g.I.Source.remaining c.args.input.now) (g.I.Source.faults c.args.input.now) (g.O.Sink.written c.args.out.now) (g.O.Sink.faults c.args.out.now) in
    let after = run_scene (told ran.0) (g.I.Source.remaining c.run_on-disk.new.input) (g.I.Source.faults c.run_on-disk.new.input) (g.O.Sink.written c.run_on-disk.new.out) (g.O.Sink.faults c.run_on-disk.new.out) in
    subst (λ (x : Option Trace). RunIsDecided c.args.job_run.now c.args.known x ran.1.ended) c.in-Ok.ensures.disk
    (end_decided c.args.job_run.now c.args.known c.micros-micros.result (count c.in-Ok.disk) (count ran.0) 0 (g.H.Mounted.Disk.bench_faults ran.0) before after ran.1 c.run_on-disk.ensures.ran)
