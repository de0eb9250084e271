use Rattle.std.proofs.Common.{◌≡◌, ◌∙◌, ap, sym, subst, arith}
use Rattle.std.specs.Prelude.{Option}
use Rattle.fsfs_base.specs.Failures.{Rose}
use Rattle.fsfs_disk.specs.Trace.{Trace, FirmNames, FailsAt}
use Rattle.fsfs_top.specs.Command.{fault_of}
use Rattle.fsfs_top.specs.Scenes.{scene}
use Rattle.fsfs_top.specs.Transactions.{OpeningIsDecided}
use Rattle.fsfs_top.proofs.TxnsTold.{lists_told}
use Rattle.fsfs_top.proofs.txns.list_at.Goals as goal

pub returns-clause-listed : goal.returns-clause-listed
returns-clause-listed g c = λ input.
    let count = g.H.Mounted.Disk.faults in
    let rose = Rose (count c.in-Ok.disk) (count c.list_opened-listed.new.disk) in
    let counted : rose → Rose (g.H.Host.disk_faults c.args.host.now) (g.H.Host.disk_faults c.unmount.new.self) = λ r. omega (arith, r, c.in-Ok.ensures.new, c.in-Ok.ensures.same_faults, c.unmount.ensures.faults) in
    lists_told rose c.args.repos.now (scene g.H.Host g.O.Sink c.args.host.now c.args.out.now input) (scene g.H.Host g.O.Sink c.unmount.new.self c.list_opened-listed.new.out input) (g.H.Mounted.Disk.trace c.in-Ok.disk)
    (fault_of c.list_opened-listed.result) c.in-Ok.ensures.disk counted c.list_opened-listed.ensures.listed

pub returns-clause-decided : goal.returns-clause-decided
returns-clause-decided g c = subst (λ (x : Option Trace). OpeningIsDecided x (fault_of c.list_opened-listed.result)) c.in-Ok.ensures.disk c.list_opened-listed.ensures.decided

pub returns-clause-ended : goal.returns-clause-ended
returns-clause-ended g c =
    let told = g.H.Mounted.Disk.trace in
    let path : g.H.Mounted.Disk.mount_path c.list_opened-listed.new.disk ≡ c.args.repos.now = c.list_opened-listed.ensures.mounted ∙ c.in-Ok.ensures.path in
    let back : g.H.Host.disk_at c.unmount.new.self c.args.repos.now ≡ told c.list_opened-listed.new.disk = ap (g.H.Host.disk_at c.unmount.new.self) (sym path) ∙ c.unmount.ensures.back in
    subst (λ (x : Option Trace). FailsAt FirmNames x (g.H.Host.disk_at c.unmount.new.self c.args.repos.now)) c.in-Ok.ensures.disk
    (subst (λ (y : Option Trace). FailsAt FirmNames (told c.in-Ok.disk) y) (sym back) c.list_opened-listed.ensures.ended)
