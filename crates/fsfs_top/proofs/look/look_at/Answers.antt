use Rattle.std.proofs.Common.{◌≡◌, ◌∙◌, inl, refl, ap, sym, subst, arith}
use Rattle.std.specs.Prelude.{Option}
use Rattle.fsfs_disk.specs.Trace.{Trace, FirmNames, FailsAt}
use Rattle.fsfs_base.specs.Failures.{Rose}
use Rattle.fsfs_top.specs.Command.{fault_of}
use Rattle.fsfs_top.specs.Scenes.{scene, sink_scene}
use Rattle.fsfs_top.proofs.FilesDecide.{look_decided, look_refusal}
use Rattle.fsfs_top.proofs.LooksPrint.{look_now, look_printed, open_refused}
use Rattle.fsfs_top.proofs.look.look_at.Goals as goal

pub returns-in-Ok-open-clause-printed : goal.returns-in-Ok-open-clause-printed
returns-in-Ok-open-clause-printed g c = λ input.
    let told = g.H.Mounted.Disk.trace in
    let count = g.H.Mounted.Disk.faults in
    let disk = Rose (g.H.Host.disk_faults c.args.host.now) (g.H.Host.disk_faults c.unmount.new.self) in
    let counted : Rose (count c.open.new.disk) (count c.look_into-disk.result.0) → disk = λ rose. omega (arith, rose, c.in-Ok.ensures.new, c.in-Ok.ensures.same_faults, c.unmount.ensures.faults) in
    look_printed c.args.repos.now c.args.look.now (scene g.H.Host g.O.Sink c.args.host.now c.args.out.now input) (scene g.H.Host g.O.Sink c.unmount.new.self c.look_into-disk.new.out input) c.in-Ok-open.opened (told c.in-Ok.disk)
    (fault_of c.look_into-disk.result.1) c.in-Ok.ensures.disk c.in-Ok-open.ensures.opened
    (look_now (Rose (count c.open.new.disk) (count c.look_into-disk.result.0)) disk c.args.look.now c.in-Ok-open.opened (told c.in-Ok.disk) (told c.open.new.disk)
    (sink_scene g.O.Sink c.args.out.now) (sink_scene g.O.Sink c.look_into-disk.new.out) (fault_of c.look_into-disk.result.1) c.in-Ok-open.ensures.same counted c.look_into-disk.ensures.printed)

pub returns-in-Ok-open-clause-decided : goal.returns-in-Ok-open-clause-decided
returns-in-Ok-open-clause-decided g c =
    let told = g.H.Mounted.Disk.trace in
    let count = g.H.Mounted.Disk.faults in
    let rose = Rose (count c.open.new.disk) (count c.look_into-disk.result.0) in
    look_decided rose c.args.look.now (told c.in-Ok.disk) (g.H.Host.disk_at c.args.host.now c.args.repos.now) c.in-Ok-open.opened
    (sink_scene g.O.Sink c.args.out.now) (sink_scene g.O.Sink c.look_into-disk.new.out) (fault_of c.look_into-disk.result.1) c.in-Ok.ensures.disk c.in-Ok-open.ensures.opened c.in-Ok-open.ensures.decided
    (look_now rose rose c.args.look.now c.in-Ok-open.opened (told c.in-Ok.disk) (told c.open.new.disk)
    (sink_scene g.O.Sink c.args.out.now) (sink_scene g.O.Sink c.look_into-disk.new.out) (fault_of c.look_into-disk.result.1) c.in-Ok-open.ensures.same (λ r. r) c.look_into-disk.ensures.printed)

pub returns-in-Err-open-clause-printed : goal.returns-in-Err-open-clause-printed
returns-in-Err-open-clause-printed g c = λ input.
    let told = g.H.Mounted.Disk.trace in
    let count = g.H.Mounted.Disk.faults in
    let disk = Rose (g.H.Host.disk_faults c.args.host.now) (g.H.Host.disk_faults c.unmount-in-Err-open.new.self) in
    let counted : Rose (count c.in-Ok.disk) (count c.open.new.disk) → disk = λ rose. omega (arith, rose, c.in-Ok.ensures.new, c.in-Ok.ensures.same_faults, c.unmount-in-Err-open.ensures.faults) in
    inl (open_refused c.args.repos.now (scene g.H.Host g.O.Sink c.args.host.now c.args.out.now input) (scene g.H.Host g.O.Sink c.unmount-in-Err-open.new.self c.args.out.now input) (Rose (count c.in-Ok.disk) (count c.open.new.disk))
    (told c.in-Ok.disk) c.in-Err-open.fault c.from.result c.in-Ok.ensures.disk c.from.ensures counted refl c.in-Err-open.ensures.refused c.in-Err-open.ensures.decided)

pub returns-in-Err-open-clause-decided : goal.returns-in-Err-open-clause-decided
returns-in-Err-open-clause-decided g c =
    look_refusal c.args.look.now (g.H.Mounted.Disk.trace c.in-Ok.disk) (g.H.Host.disk_at c.args.host.now c.args.repos.now) c.in-Err-open.fault c.from.result c.in-Ok.ensures.disk c.from.ensures c.in-Err-open.ensures.decided

pub returns-in-Ok-open-clause-ended : goal.returns-in-Ok-open-clause-ended
returns-in-Ok-open-clause-ended g c =
    let told = g.H.Mounted.Disk.trace in
    let path : g.H.Mounted.Disk.mount_path c.look_into-disk.result.0 ≡ c.args.repos.now = c.look_into-disk.ensures.mounted ∙ c.in-Ok-open.ensures.mounted ∙ c.in-Ok.ensures.path in
    let back : g.H.Host.disk_at c.unmount.new.self c.args.repos.now ≡ told c.open.new.disk = ap (g.H.Host.disk_at c.unmount.new.self) (sym path) ∙ c.unmount.ensures.back ∙ c.look_into-disk.ensures.same in
    subst (λ (x : Option Trace). FailsAt FirmNames x (g.H.Host.disk_at c.unmount.new.self c.args.repos.now)) c.in-Ok.ensures.disk
    (subst (λ (y : Option Trace). FailsAt FirmNames (told c.in-Ok.disk) y) (sym back) c.in-Ok-open.ensures.ended)

pub returns-in-Err-open-clause-ended : goal.returns-in-Err-open-clause-ended
returns-in-Err-open-clause-ended g c =
    let told = g.H.Mounted.Disk.trace in
    let path : g.H.Mounted.Disk.mount_path c.open.new.disk ≡ c.args.repos.now = c.in-Err-open.ensures.mounted ∙ c.in-Ok.ensures.path in
    let back : g.H.Host.disk_at c.unmount-in-Err-open.new.self c.args.repos.now ≡ told c.open.new.disk = ap (g.H.Host.disk_at c.unmount-in-Err-open.new.self) (sym path) ∙ c.unmount-in-Err-open.ensures.back in
    subst (λ (x : Option Trace). FailsAt FirmNames x (g.H.Host.disk_at c.unmount-in-Err-open.new.self c.args.repos.now)) c.in-Ok.ensures.disk
    (subst (λ (y : Option Trace). FailsAt FirmNames (told c.in-Ok.disk) y) (sym back) c.in-Err-open.ensures.ended)
