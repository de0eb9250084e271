use Rattle.std.proofs.Common.{◌≡◌, ◌∙◌, ap, sym, subst, arith}
use Rattle.std.specs.Prelude.{Option, option_map}
use Rattle.fsfs_base.specs.Failures.{Rose}
use Rattle.fsfs_disk.specs.Trace.{Trace, files_now}
use Rattle.fsfs_top.specs.Command.{fault_of}
use Rattle.fsfs_top.specs.Scenes.{host_scene}
use Rattle.fsfs_top.specs.Transactions.{OpeningIsDecided, LeavesRemoval}
use Rattle.fsfs_top.proofs.TxnsTold.{removes_told, removal_unmounted}
use Rattle.fsfs_top.proofs.txns.remove_at.Goals as goal

pub remove_opened-removed-requires : goal.remove_opened-removed-requires
remove_opened-removed-requires g c = c.in-Ok.ensures.right tt

pub returns-clause-removed : goal.returns-clause-removed
returns-clause-removed g c =
    let told = g.H.Mounted.Disk.trace in
    let count = g.H.Mounted.Disk.faults in
    let path : g.H.Mounted.Disk.mount_path c.remove_opened-removed.new.disk ≡ c.args.repos.now = c.remove_opened-removed.ensures.mounted ∙ c.in-Ok.ensures.path in
    let back : g.H.Host.disk_at c.unmount.new.self c.args.repos.now ≡ told c.remove_opened-removed.new.disk = ap (g.H.Host.disk_at c.unmount.new.self) (sym path) ∙ c.unmount.ensures.back in
    let rose = Rose (count c.in-Ok.disk) (count c.remove_opened-removed.new.disk) in
    let counted : rose → Rose (g.H.Host.disk_faults c.args.host.now) (g.H.Host.disk_faults c.unmount.new.self) = λ r. omega (arith, r, c.in-Ok.ensures.new, c.in-Ok.ensures.same_faults, c.unmount.ensures.faults) in
    removes_told rose c.args.repos.now c.args.names.now (host_scene g.H.Host c.args.host.now) (host_scene g.H.Host c.unmount.new.self) (told c.in-Ok.disk) (told c.remove_opened-removed.new.disk)
    (fault_of c.remove_opened-removed.result) c.in-Ok.ensures.disk back counted c.remove_opened-removed.ensures.removed

pub returns-clause-decided : goal.returns-clause-decided
returns-clause-decided g c = subst (λ (x : Option Trace). OpeningIsDecided x (fault_of c.remove_opened-removed.result)) c.in-Ok.ensures.disk c.remove_opened-removed.ensures.decided

pub returns-clause-same : goal.returns-clause-same
returns-clause-same g c =
    let path : g.H.Mounted.Disk.mount_path c.remove_opened-removed.new.disk ≡ c.args.repos.now = c.remove_opened-removed.ensures.mounted ∙ c.in-Ok.ensures.path in
    let back = ap (g.H.Host.disk_at c.unmount.new.self) (sym path) ∙ c.unmount.ensures.back in
    ap (option_map files_now) back ∙ c.remove_opened-removed.ensures.same ∙ ap (option_map files_now) c.in-Ok.ensures.disk

pub returns-clause-any_moment : goal.returns-clause-any_moment
returns-clause-any_moment g c =
    let told = g.H.Mounted.Disk.trace in
    let path : g.H.Mounted.Disk.mount_path c.remove_opened-removed.new.disk ≡ c.args.repos.now = c.remove_opened-removed.ensures.mounted ∙ c.in-Ok.ensures.path in
    let back : g.H.Host.disk_at c.unmount.new.self c.args.repos.now ≡ told c.remove_opened-removed.new.disk = ap (g.H.Host.disk_at c.unmount.new.self) (sym path) ∙ c.unmount.ensures.back in
    (subst (λ (x : Option Trace). LeavesRemoval x (g.H.Host.disk_at c.unmount.new.self c.args.repos.now)) c.in-Ok.ensures.disk
    (subst (λ (y : Option Trace). LeavesRemoval (told c.in-Ok.disk) y) (sym back) (c.remove_opened-removed.ensures.any_moment, c.remove_opened-removed.ensures.labels))).0

pub returns-clause-labels : goal.returns-clause-labels
returns-clause-labels g c =
    let told = g.H.Mounted.Disk.trace in
    let path : g.H.Mounted.Disk.mount_path c.remove_opened-removed.new.disk ≡ c.args.repos.now = c.remove_opened-removed.ensures.mounted ∙ c.in-Ok.ensures.path in
    let back : g.H.Host.disk_at c.unmount.new.self c.args.repos.now ≡ told c.remove_opened-removed.new.disk = ap (g.H.Host.disk_at c.unmount.new.self) (sym path) ∙ c.unmount.ensures.back in
    (subst (λ (x : Option Trace). LeavesRemoval x (g.H.Host.disk_at c.unmount.new.self c.args.repos.now)) c.in-Ok.ensures.disk
    (subst (λ (y : Option Trace). LeavesRemoval (told c.in-Ok.disk) y) (sym back) (c.remove_opened-removed.ensures.any_moment, c.remove_opened-removed.ensures.labels))).1

pub returns-in-Err-clause-any_moment : goal.returns-in-Err-clause-any_moment
returns-in-Err-clause-any_moment g c = (removal_unmounted (g.H.Host.disk_at c.args.host.now c.args.repos.now) (g.H.Host.disk_at c.mount.new.self c.args.repos.now) c.in-Err.ensures.err).0

pub returns-in-Err-clause-labels : goal.returns-in-Err-clause-labels
returns-in-Err-clause-labels g c = (removal_unmounted (g.H.Host.disk_at c.args.host.now c.args.repos.now) (g.H.Host.disk_at c.mount.new.self c.args.repos.now) c.in-Err.ensures.err).1
