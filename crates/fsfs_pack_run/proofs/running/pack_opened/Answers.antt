use Rattle.std.proofs.Common.{sym, ap, subst}
use Rattle.std.specs.Prelude.{IfErr, IfOk}
use Rattle.fsfs_base.specs.Failures.{Rose}
use Rattle.fsfs_machine.specs.Machine.{revisions}
use Rattle.fsfs_repo.specs.PackCauses.{IfBench, IfDisk}
use Rattle.fsfs_repo.specs.Packs.{LeftRose}
use Rattle.fsfs_turn.specs.Alone.{packing}
use Rattle.fsfs_turn.specs.Telling.{state_of}
use Rattle.fsfs_pack_run.specs.Runs.{KeepsListing, PacksOver}
use Rattle.fsfs_pack_run.proofs.Ending.{packed_over}
use Rattle.fsfs_pack_run.proofs.Floors.{rises_so}
use Rattle.fsfs_pack_run.proofs.running.pack_opened.Goals as goal

pub returns-clause-packs : goal.returns-clause-packs
returns-clause-packs g c = λ v known none just files.
    let told = g.D.Disk.trace in
    let path = g.D.Disk.mount_path in
    let benches = g.D.Disk.bench_faults in
    let was = c.args.repo.turns in
    let at = c.pack-repo.result.0.turns in
    let end = c.pack-repo.result.1.end in
    let p = c.pack-repo.ensures.packed v known none in
    let leaves = c.pack-repo.ensures.crashes p.0 p.1 in
    let rose = rises_so (λ t. state_of t.layout t.floor t.young t.stuck (told t.disk) (path t.disk) (benches t.disk)) was at end c.pack-repo.result.1.renamed v p.0 known p.1 just p.2 p.3 p.4 files (c.pack-repo.ensures.floors v known none) in
    subst (PacksOver (packing v).since (revisions v.seen) end) (sym (ap told c.close.ensures))
    (packed_over at.layout at.floor at.young at.stuck (told at.disk) c.pack-repo.result.1.renamed end (packing v) p.0 p.1 (record { opened = just.opened; least = just.least; bytes = just.bytes; clear = just.clear; harmless = just.harmless }) p.2 p.3 p.4 leaves rose)

pub returns-clause-left : goal.returns-clause-left
returns-clause-left g c = subst (λ d. IfOk c.pack-repo.result.1.end (λ end. LeftRose end (g.D.Disk.faults c.args.repo.turns.disk) (g.D.Disk.faults d))) (sym c.close.ensures) c.pack-repo.ensures.left

pub returns-clause-cause : goal.returns-clause-cause
returns-clause-cause g c = subst (λ d. IfErr c.pack-repo.result.1.end (λ why. IfDisk why (Rose (g.D.Disk.faults c.args.repo.turns.disk) (g.D.Disk.faults d)))) (sym c.close.ensures) c.pack-repo.ensures.cause

pub returns-clause-bench_cause : goal.returns-clause-bench_cause
returns-clause-bench_cause g c = subst (λ d. IfErr c.pack-repo.result.1.end (λ why. IfBench why (Rose (g.D.Disk.bench_faults c.args.repo.turns.disk) (g.D.Disk.bench_faults d)))) (sym c.close.ensures) c.pack-repo.ensures.bench_cause

pub returns-clause-listed : goal.returns-clause-listed
returns-clause-listed g c =
    let count = g.D.Disk.faults in
    let told = g.D.Disk.trace in
    let old = c.args.repo.turns.disk in
    subst (λ d. KeepsListing (Rose (count old) (count d)) (told old) (told d)) (sym c.close.ensures) (record { txns = c.pack-repo.ensures.listed; tidy = c.pack-repo.ensures.tidy })
