use Rattle.std.proofs.Common.{◌≡◌, ap, ◌∙◌}
use Rattle.std.specs.Prelude.{Some}
use Rattle.fsfs_disk.specs.Trace.{files_now}
use Rattle.fsfs_fetch.specs.Owned.{OwnedBelow, state_of}
use Rattle.fsfs_fetch.proofs.OwnedLemmas.{owned_files, owned_floor, owned_tells}
use Rattle.fsfs_fetch.proofs.PropsLemmas.{owned_only}
use Rattle.fsfs_fetch.proofs.direct.over_disk.Goals as goal

pub returns-clause-told : goal.returns-clause-told
returns-clause-told g c = λ t told is.
    let trace = g.D.Disk.trace c.new.result.disk in
    let path = g.D.Disk.mount_path c.new.result.disk in
    let right = g.D.Disk.may_write c.new.result.disk in
    let benches = g.D.Disk.bench_faults c.new.result.disk in
    let there : trace ≡ Some t = ap g.D.Disk.trace c.new.ensures.disk ∙ told in
    owned_tells (state_of trace path right benches) c.new.result.youngest c.new.result.layout c.args.youngest c.args.layout (files_now t) _ c.new.ensures.youngest c.new.ensures.layout
    (c.new-2.ensures.told (files_now t) (owned_files trace path right benches c.new.result.youngest c.new.result.layout t there) (owned_floor c.new.result.layout c.args.layout c.args.floor (files_now t) c.new.ensures.layout is))

pub returns-clause-props : goal.returns-clause-props
returns-clause-props g c = λ t told r le read may.
    let disk = c.new.result.disk in
    owned_only (g.D.Disk.trace disk) t c.new.result.layout c.args.layout c.new.result.youngest c.args.youngest (ap g.D.Disk.trace c.new.ensures.disk ∙ told) c.new.ensures.youngest c.new.ensures.layout r le read (c.new-2.ensures.props r read may)

pub returns-clause-below : goal.returns-clause-below
returns-clause-below g c = ap (λ (b : OwnedBelow). b.disk) c.new-2.ensures.below ∙ ap (λ d. Some (state_of (g.D.Disk.trace d) (g.D.Disk.mount_path d) (g.D.Disk.may_write d) (g.D.Disk.bench_faults d))) c.new.ensures.disk

pub returns-clause-faults : goal.returns-clause-faults
returns-clause-faults g c = ap (λ r. g.D.Disk.faults r.disk) c.new-2.ensures.reads ∙ ap g.D.Disk.faults c.new.ensures.disk
