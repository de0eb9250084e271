use Rattle.std.proofs.Common.{ℕ, refl, sym, subst, arith}
use Rattle.std.specs.Prelude.{Err}
use Rattle.fsfs_base.specs.Failures.{Rose}
use Rattle.fsfs_cli.specs.declared.faults.fault.Fault.{Fault}
use Rattle.fsfs_turn.specs.Alone.{KnowsAlone}
use Rattle.fsfs_turn.specs.Mountings.{RoseBy}
use Rattle.fsfs_pack_run.specs.From.{NotOpened, Ended, PacksFrom}
use Rattle.fsfs_pack_run.proofs.Ending.{bench_on, disk_on, left_on, listing_on, packs_it}
use Rattle.fsfs_pack_run.proofs.running.pack_from.Goals as goal

pub returns-in-Err-clause-packed : goal.returns-in-Err-clause-packed
returns-in-Err-clause-packed g c =
    let old = c.args.disk in
    let new = c.in-Err.unopened.disk in
    subst (λ (f : Fault). PacksFrom (g.D.Disk.faults old) (g.D.Disk.faults new) (Rose (g.D.Disk.bench_faults old) (g.D.Disk.bench_faults new)) (g.D.Disk.trace old) (g.D.Disk.trace new) (Err f)) (sym c.from.ensures)
    (NotOpened c.in-Err.unopened.why c.in-Err.ensures.refused c.in-Err.ensures.left)

-- an opening changes no count of benches
pub returns-in-Err-clause-benches : goal.returns-in-Err-clause-benches
returns-in-Err-clause-benches g c = omega (arith, c.in-Err.ensures.benches)

pub returns-clause-benches : goal.returns-clause-benches
returns-clause-benches g c = omega (arith, c.in-Ok.ensures.benches, c.pack_opened-disk.ensures.benches)

pub returns-clause-packed : goal.returns-clause-packed
returns-clause-packed g c =
    let told = g.D.Disk.trace in
    let count = g.D.Disk.faults in
    let benches = g.D.Disk.bench_faults in
    let old = c.args.disk in
    let o = c.in-Ok.opened in
    let turns = o.repo.turns in
    let new = c.pack_opened-disk.result.0 in
    let done = c.pack_opened-disk.result.1 in
    let bench = Rose (benches old) (benches new) in
    let risen : (n : ℕ) → RoseBy n (count turns.disk) (count new) → RoseBy n (count old) (count new) = λ n r. omega (arith, r, c.in-Ok.ensures.later) in
    let bench_failed : Rose (benches turns.disk) (benches new) → bench = λ r. omega (arith, r, c.in-Ok.ensures.benches) in
    let over = packs_it (KnowsAlone turns.layout turns.floor turns.young turns.stuck (told turns.disk)) done.end (told old) (told turns.disk) (told new) c.in-Ok.ensures.known c.in-Ok.ensures.firm c.pack_opened-disk.ensures.packs in
    let rose = Rose (count turns.disk) (count new) in
    Ended o.said (record { floor = o.said.min_unpacked_rev; renamed = done.renamed; end = done.end }) c.in-Ok.ensures.opened refl c.pack_opened-disk.ensures.renamed over
    (listing_on rose (Rose (count old) (count new)) (told old) (told turns.disk) (told new) (risen 1) c.in-Ok.ensures.listed c.pack_opened-disk.ensures.listed) (left_on (count turns.disk) (count new) (count old) (count new) done.end risen c.pack_opened-disk.ensures.left)
    (disk_on rose (Rose (count old) (count new)) done.end (risen 1) c.pack_opened-disk.ensures.cause) (bench_on (Rose (benches turns.disk) (benches new)) bench done.end bench_failed c.pack_opened-disk.ensures.bench_cause)
