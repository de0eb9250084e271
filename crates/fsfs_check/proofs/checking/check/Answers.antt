use Rattle.fsfs_fetch.specs.Props.{may_read, owned_props}
use Rattle.fsfs_fetch.specs.Views.{Ends}
use Rattle.fsfs_check.proofs.Findings.{checked, no_write, unread}
use Rattle.fsfs_check.proofs.checking.check.Goals as goal

pub returns-in-Err-clause-told : goal.returns-in-Err-clause-told
returns-in-Err-clause-told g c = unread (g.D.Disk.trace c.args.disk) c.args.layout c.args.youngest c.in-Err.error c.in-Err.ensures.told

pub returns-clause-told : goal.returns-clause-told
returns-clause-told g c =
    let told = g.D.Disk.trace in
    let reads = c.over_disk-book.result.reads in
    checked (told c.args.disk) (told c.floor_now.new.disk) c.floor_now.ensures.same c.args.layout c.args.youngest c.in-Ok.floor _ (may_read (Ends reads.youngest) (owned_props (told reads.disk) reads.layout)) c.verify-checked.result c.in-Ok.ensures.told c.over_disk-book.ensures.told c.over_disk-book.ensures.props c.verify-checked.ensures.told
    (no_write c.verify-checked.result c.verify-checked.ensures.sink.failed)
