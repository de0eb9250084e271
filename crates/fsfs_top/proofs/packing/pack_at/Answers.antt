use Rattle.std.proofs.Common.{◌≡◌, ◌∙◌, ℕ, ap, sym, subst, refl, inl, inr, arith}
use Rattle.std.specs.Prelude.{Option}
use Rattle.fsfs_base.specs.Failures.{Rose, added_count}
use Rattle.fsfs_cli.specs.declared.faults.fault.Fault.TheVariants.{Outside}
use Rattle.fsfs_cli.specs.declared.faults.outside_fault.OutsideFault.TheVariants.{Mount}
use Rattle.fsfs_disk.specs.Trace.{Trace}
use Rattle.fsfs_top.specs.Command.{fault_of}
use Rattle.fsfs_top.specs.Packing.{HoldsHistory}
use Rattle.fsfs_top.specs.Scenes.{sink_scene}
use Rattle.fsfs_top.specs.Transactions.{OpeningIsDecided}
use Rattle.fsfs_top.proofs.FilesDecide.{opening_outside}
use Rattle.fsfs_top.proofs.PacksTold.{packs_decided, packs_keep, packs_told}
use Rattle.fsfs_top.proofs.WorkersTold.{by_host}
use Rattle.fsfs_top.proofs.packing.pack_at.Goals as goal

pub pack_disk-disk-requires : goal.pack_disk-disk-requires
pack_disk-disk-requires g c = c.in-Ok.ensures.right tt

pub returns-in-Err-clause-packed : goal.returns-in-Err-clause-packed
returns-in-Err-clause-packed g c = λ input. inl (refl, c.in-Err.ensures.cause.failed, c.in-Err.ensures.err, refl)

pub returns-in-Err-clause-decided : goal.returns-in-Err-clause-decided
returns-in-Err-clause-decided g c = opening_outside (g.H.Host.disk_at c.args.host.now c.args.repos.now) (Outside Mount) tt

pub returns-clause-packed : goal.returns-clause-packed
returns-clause-packed g c = λ input.
    let told = g.H.Mounted.Disk.trace in
    let count = g.H.Mounted.Disk.faults in
    let benches = g.H.Mounted.Disk.bench_faults in
    let new = c.pack_disk-disk.result.0 in
    let path : g.H.Mounted.Disk.mount_path new ≡ c.args.repos.now = c.pack_disk-disk.ensures.mounted ∙ c.in-Ok.ensures.path in
    let back : g.H.Host.disk_at c.unmount.new.self c.args.repos.now ≡ told new = ap (g.H.Host.disk_at c.unmount.new.self) (sym path) ∙ c.unmount.ensures.back in
    let old_count = g.H.Host.disk_faults c.args.host.now in
    let new_count = g.H.Host.disk_faults c.unmount.new.self in
    let counts = c.unmount.ensures.faults ∙ ap (λ (n : ℕ). added_count n (count new)) c.in-Ok.ensures.same_faults in
    let bench = Rose 0 (benches new) in
    let risen = Rose (g.H.Host.bench_faults c.args.host.now) (g.H.Host.bench_faults c.unmount.new.self) in
    let benched : bench → risen = λ r. omega (arith, r, c.in-Ok.ensures.same_benches, c.unmount.ensures.benches) in
    inr (
      c.pack_disk-disk.result.1,
      packs_told (count c.in-Ok.disk) (count new) old_count new_count bench risen (told c.in-Ok.disk) (told new) (g.H.Host.disk_at c.args.host.now c.args.repos.now) (g.H.Host.disk_at c.unmount.new.self c.args.repos.now) c.pack_disk-disk.result.1 c.in-Ok.ensures.disk back
          (λ n r. by_host n (count c.in-Ok.disk) (count new) old_count new_count c.in-Ok.ensures.new counts r) benched c.pack_disk-disk.ensures.packed,
      c.tell_packed.ensures,
    )

pub returns-clause-decided : goal.returns-clause-decided
returns-clause-decided g c =
    let told = g.H.Mounted.Disk.trace in
    let new = c.pack_disk-disk.result.0 in
    let count = g.H.Mounted.Disk.faults in
    let bench = Rose 0 (g.H.Mounted.Disk.bench_faults new) in
    let decided = packs_decided (count c.in-Ok.disk) (count new) bench (told c.in-Ok.disk) (told new) c.pack_disk-disk.result.1 (sink_scene g.O.Sink c.args.out.now) (sink_scene g.O.Sink c.tell_packed.new.out) (fault_of c.tell_packed.result) c.pack_disk-disk.ensures.packed c.tell_packed.ensures in
    subst (λ (x : Option Trace). OpeningIsDecided x (fault_of c.tell_packed.result)) c.in-Ok.ensures.disk decided

pub returns-in-Err-clause-kept : goal.returns-in-Err-clause-kept
returns-in-Err-clause-kept g c = λ h has. subst (HoldsHistory h) (sym c.in-Err.ensures.err) has

pub returns-clause-kept : goal.returns-clause-kept
returns-clause-kept g c = λ h has.
    let told = g.H.Mounted.Disk.trace in
    let new = c.pack_disk-disk.result.0 in
    let path : g.H.Mounted.Disk.mount_path new ≡ c.args.repos.now = c.pack_disk-disk.ensures.mounted ∙ c.in-Ok.ensures.path in
    let back : g.H.Host.disk_at c.unmount.new.self c.args.repos.now ≡ told new = ap (g.H.Host.disk_at c.unmount.new.self) (sym path) ∙ c.unmount.ensures.back in
    let count = g.H.Mounted.Disk.faults in
    subst (HoldsHistory h) (sym back)
    (packs_keep (count c.in-Ok.disk) (count new) (Rose 0 (g.H.Mounted.Disk.bench_faults new)) (told c.in-Ok.disk) (told new) c.pack_disk-disk.result.1 h c.pack_disk-disk.ensures.packed (subst (HoldsHistory h) (sym c.in-Ok.ensures.disk) has))
