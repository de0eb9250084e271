use Rattle.std.proofs.Common.{ℕ, sym, subst, arith}
use Rattle.std.specs.Prelude.{Result}
use Rattle.fsfs_base.specs.Failures.{Rose}
use Rattle.fsfs_cli.specs.declared.faults.fault.Fault.{Fault}
use Rattle.fsfs_pack_run.specs.Runs.{PacksDisk}
use Rattle.fsfs_pack_run.proofs.Telling.{told_by}
use Rattle.fsfs_pack_run.proofs.running.pack_disk.Goals as goal

pub returns-clause-packed : goal.returns-clause-packed
returns-clause-packed g c =
    let told = g.D.Disk.trace in
    let count = g.D.Disk.faults in
    let benches = g.D.Disk.bench_faults in
    let old = c.args.disk in
    let new = c.pack_from-disk.result.0 in
    let bench = Rose 0 (benches new) in
    let bench_failed : Rose (benches old) (benches new) → bench = λ r. omega (arith, r) in
    subst (λ (r : Result ℕ Fault). PacksDisk (count old) (count new) bench (told old) (told new) r) (sym c.tell.ensures)
    (told_by (count old) (count new) (Rose (benches old) (benches new)) bench (told old) (told new) c.pack_from-disk.result.1 bench_failed c.pack_from-disk.ensures.packed)
