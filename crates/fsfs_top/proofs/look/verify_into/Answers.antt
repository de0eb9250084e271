use Rattle.std.proofs.Common.{[], refl}
use Rattle.std.specs.Prelude.{Ok, Err, Result}
use Rattle.fsfs_base.specs.Failures.{Rose}
use Rattle.fsfs_look.specs.declared.look_error.LookError.{LookError}
use Rattle.fsfs_fetch.specs.Views.{Ends}
use Rattle.fsfs_fetch.specs.Props.{may_read, owned_props}
use Rattle.fsfs_top.proofs.LooksPrint.{verify_writes, fault_with_cause, same_counts}
use Rattle.fsfs_top.proofs.look.verify_into.Goals as goal

pub returns-in-Ok-clause-printed : goal.returns-in-Ok-clause-printed
returns-in-Ok-clause-printed g c =
    let o = c.args.opened.now in
    let reads = c.over_disk-book.result.reads in
    let r : Result (Unit {0}) LookError = Ok tt in
    record {
      result = r;
      writes = verify_writes (g.D.Disk.trace c.args.disk) o _ (may_read (Ends reads.youngest) (owned_props (g.D.Disk.trace reads.disk) reads.layout)) (g.O.Sink.written c.args.out.now) (g.O.Sink.written c.verify-verified.new.sink) r c.requires c.over_disk-book.ensures.told c.over_disk-book.ensures.props c.in-Ok.ensures.told;
      fault_is = refl;
    }

pub returns-in-Err-clause-printed : goal.returns-in-Err-clause-printed
returns-in-Err-clause-printed g c =
    let o = c.args.opened.now in
    let reads = c.over_disk-book.result.reads in
    let r : Result (Unit {0}) LookError = Err c.in-Err.error in
    let disk = Rose (g.D.Disk.faults c.args.disk) (g.D.Disk.faults c.disk_of-disk.result) in
    let write = Rose (g.O.Sink.faults c.args.out.now) (g.O.Sink.faults c.verify-verified.new.sink) in
    record {
      result = r;
      writes = verify_writes (g.D.Disk.trace c.args.disk) o _ (may_read (Ends reads.youngest) (owned_props (g.D.Disk.trace reads.disk) reads.layout)) (g.O.Sink.written c.args.out.now) (g.O.Sink.written c.verify-verified.new.sink) r c.requires c.over_disk-book.ensures.told c.over_disk-book.ensures.props c.in-Err.ensures.told;
      fault_is = fault_with_cause disk write [] c.in-Err.error c.fault_of_all.result c.fault_of_all.ensures
          (same_counts c.in-Err.error _ _ (g.D.Disk.faults c.args.disk) (g.D.Disk.faults c.disk_of-disk.result) c.over_disk-book.ensures.faults c.disk_of-disk.ensures.faults c.in-Err.ensures.cause.failed)
          c.in-Err.ensures.sink.failed;
    }
