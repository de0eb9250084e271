use Rattle.std.proofs.Common.{◌≤◌, refl, inr, subst}
use Rattle.std.specs.Prelude.{Ok, Err, Result}
use Rattle.fsfs_base.specs.Failures.{Rose}
use Rattle.fsfs_look.specs.declared.look_error.LookError.{LookError}
use Rattle.fsfs_cli.specs.Requests.{printed_path}
use Rattle.fsfs_fetch.specs.Views.{Ends}
use Rattle.fsfs_fetch.specs.Props.{may_read, owned_props}
use Rattle.fsfs_top.proofs.LooksPrint.{into_writes, fault_with_cause, same_counts}
use Rattle.fsfs_top.proofs.look.look_at_revision.Goals as goal

pub returns-in-Ok-printed-clause-printed : goal.returns-in-Ok-printed-clause-printed
returns-in-Ok-printed-clause-printed g c =
    let look = c.args.look.now in
    let o = c.args.opened.now in
    let reads = c.over_disk-book.result.reads in
    let r : Result (Unit {0}) LookError = Ok tt in
    inr (record {
      there = subst (λ n. n ≤ o.youngest) c.in-Ok.ensures.found.0 c.in-Ok.ensures.found.1;
      result = r;
      writes = into_writes (g.D.Disk.trace c.args.disk) look o c.in-Ok.rev _ (may_read (Ends reads.youngest) (owned_props (g.D.Disk.trace reads.disk) reads.layout)) (g.O.Sink.written c.args.out.now) (g.O.Sink.written c.print_look-printed.new.out) r c.requires c.over_disk-book.ensures.told c.over_disk-book.ensures.props
          c.in-Ok.ensures.found.0 c.in-Ok.ensures.found.1 c.in-Ok-printed.ensures.told;
      fault_is = refl;
    })

pub returns-in-Err-printed-clause-printed : goal.returns-in-Err-printed-clause-printed
returns-in-Err-printed-clause-printed g c =
    let look = c.args.look.now in
    let o = c.args.opened.now in
    let reads = c.over_disk-book.result.reads in
    let r : Result (Unit {0}) LookError = Err c.in-Err-printed.error in
    let disk = Rose (g.D.Disk.faults c.args.disk) (g.D.Disk.faults c.disk_of-disk.result) in
    let write = Rose (g.O.Sink.faults c.args.out.now) (g.O.Sink.faults c.print_look-printed.new.out) in
    inr (record {
      there = subst (λ n. n ≤ o.youngest) c.in-Ok.ensures.found.0 c.in-Ok.ensures.found.1;
      result = r;
      writes = into_writes (g.D.Disk.trace c.args.disk) look o c.in-Ok.rev _ (may_read (Ends reads.youngest) (owned_props (g.D.Disk.trace reads.disk) reads.layout)) (g.O.Sink.written c.args.out.now) (g.O.Sink.written c.print_look-printed.new.out) r c.requires c.over_disk-book.ensures.told c.over_disk-book.ensures.props
          c.in-Ok.ensures.found.0 c.in-Ok.ensures.found.1 c.in-Err-printed.ensures.told;
      fault_is = fault_with_cause disk write (printed_path look.printed) c.in-Err-printed.error c.fault_at.result c.fault_at.ensures
          (same_counts c.in-Err-printed.error _ _ (g.D.Disk.faults c.args.disk) (g.D.Disk.faults c.disk_of-disk.result) c.over_disk-book.ensures.faults c.disk_of-disk.ensures.faults c.in-Err-printed.ensures.cause.failed)
          c.in-Err-printed.ensures.sink.failed;
    })
