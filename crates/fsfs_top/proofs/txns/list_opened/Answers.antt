use Rattle.std.proofs.Common.{inr, refl, arith}
use Rattle.fsfs_base.specs.Failures.{Rose}
use Rattle.fsfs_top.specs.Command.{fault_of}
use Rattle.fsfs_top.specs.Scenes.{sink_scene}
use Rattle.fsfs_top.proofs.FilesDecide.{opening_done, opening_refusal}
use Rattle.fsfs_top.proofs.TxnsTold.{labels_firm, listed_now, listing_refused}
use Rattle.fsfs_top.proofs.txns.list_opened.Goals as goal

pub returns-in-Ok-clause-listed : goal.returns-in-Ok-clause-listed
returns-in-Ok-clause-listed g c =
    let told = g.D.Disk.trace in
    let count = g.D.Disk.faults in
    let rose = Rose (count c.open.new.disk) (count c.list_now.new.disk) in
    let disk = Rose (count c.args.disk.now) (count c.list_now.new.disk) in
    let counted : rose → disk = λ r. omega (arith, r, c.in-Ok.ensures.later) in
    inr (
      c.in-Ok._opened,
      c.in-Ok.ensures.opened,
      listed_now rose disk (told c.args.disk.now) (told c.open.new.disk) (sink_scene g.O.Sink c.args.out.now) (sink_scene g.O.Sink c.list_now.new.out) (fault_of c.list_now.result) counted
          (labels_firm (told c.args.disk.now) (told c.open.new.disk) c.in-Ok.ensures.ended) c.list_now.ensures.listed,
    )

pub returns-in-Ok-clause-decided : goal.returns-in-Ok-clause-decided
returns-in-Ok-clause-decided g c = opening_done (g.D.Disk.trace c.args.disk.now) (g.D.Disk.trace c.args.disk.now) c.in-Ok._opened (fault_of c.list_now.result) refl c.in-Ok.ensures.decided

pub returns-in-Err-clause-listed : goal.returns-in-Err-clause-listed
returns-in-Err-clause-listed g c =
    listing_refused (Rose (g.D.Disk.faults c.args.disk.now) (g.D.Disk.faults c.open.new.disk)) (g.D.Disk.trace c.args.disk.now) (sink_scene g.O.Sink c.args.out.now) c.in-Err.fault c.from.result c.from.ensures c.in-Err.ensures.refused c.in-Err.ensures.decided

pub returns-in-Err-clause-decided : goal.returns-in-Err-clause-decided
returns-in-Err-clause-decided g c =
    opening_refusal (g.D.Disk.trace c.args.disk.now) (g.D.Disk.trace c.args.disk.now) c.in-Err.fault c.from.result refl c.from.ensures c.in-Err.ensures.decided
