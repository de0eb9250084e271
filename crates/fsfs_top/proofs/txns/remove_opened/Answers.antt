use Rattle.std.proofs.Common.{◌≡◌, ℕ, List, refl, sym, subst, arith}
use Rattle.std.specs.Prelude.{IsTrue, Bool}
use Rattle.fsfs_base.specs.Failures.{Rose}
use Rattle.fsfs_disk.specs.Transactions.Removals.{Removes}
use Rattle.fsfs_top.specs.Command.{fault_of}
use Rattle.fsfs_top.proofs.FilesDecide.{opening_done, opening_refusal}
use Rattle.fsfs_top.proofs.TxnsTold.{labels_firm, removal_done, removal_fails, removal_images, removal_labels, removal_refused, removal_unopened}
use Rattle.fsfs_top.proofs.txns.remove_opened.Goals as goal

pub rmtxns-requires : goal.rmtxns-requires
rmtxns-requires g c = subst (λ (b : Bool). IsTrue b) (sym c.in-Ok.ensures.right) c.requires

pub returns-in-Ok-clause-removed : goal.returns-in-Ok-clause-removed
returns-in-Ok-clause-removed g c =
    let told = g.D.Disk.trace in
    let count = g.D.Disk.faults in
    let old = told c.args.disk.now in
    let mid = told c.open.new.disk in
    let new = told c.rmtxns.new.disk in
    let rose = Rose (count c.open.new.disk) (count c.rmtxns.new.disk) in
    let disk = Rose (count c.args.disk.now) (count c.rmtxns.new.disk) in
    let counted : rose → disk = λ r. omega (arith, r, c.in-Ok.ensures.later) in
    removal_done disk c.args.names.now old mid new c.in-Ok._opened c.rmtxns.result (fault_of c.removed.result) c.in-Ok.ensures.opened (labels_firm old mid c.in-Ok.ensures.ended)
    (subst (λ (l : List (ℕ × ℕ)). Removes l mid new c.rmtxns.result) c.as_slice.ensures c.rmtxns.ensures.removed) c.removed.ensures
    (removal_fails rose disk (count c.rmtxns.new.disk ≡ count c.open.new.disk) c.rmtxns.result counted c.rmtxns.ensures.failed)

pub returns-in-Ok-clause-decided : goal.returns-in-Ok-clause-decided
returns-in-Ok-clause-decided g c = opening_done (g.D.Disk.trace c.args.disk.now) (g.D.Disk.trace c.args.disk.now) c.in-Ok._opened (fault_of c.removed.result) refl c.in-Ok.ensures.decided

pub returns-in-Ok-clause-any_moment : goal.returns-in-Ok-clause-any_moment
returns-in-Ok-clause-any_moment g c =
    removal_images (g.D.Disk.trace c.args.disk.now) (g.D.Disk.trace c.open.new.disk) (g.D.Disk.trace c.rmtxns.new.disk) c.in-Ok.ensures.ended c.rmtxns.ensures.any_moment

pub returns-in-Ok-clause-labels : goal.returns-in-Ok-clause-labels
returns-in-Ok-clause-labels g c =
    removal_labels (g.D.Disk.trace c.args.disk.now) (g.D.Disk.trace c.open.new.disk) (g.D.Disk.trace c.rmtxns.new.disk) c.in-Ok.ensures.ended c.rmtxns.ensures.labels

pub returns-in-Err-clause-removed : goal.returns-in-Err-clause-removed
returns-in-Err-clause-removed g c =
    let old = g.D.Disk.trace c.args.disk.now in
    let new = g.D.Disk.trace c.open.new.disk in
    removal_refused (Rose (g.D.Disk.faults c.args.disk.now) (g.D.Disk.faults c.open.new.disk)) c.args.names.now old new c.in-Err.fault c.from.result c.from.ensures c.in-Err.ensures.refused c.in-Err.ensures.decided (labels_firm old new c.in-Err.ensures.ended)

pub returns-in-Err-clause-decided : goal.returns-in-Err-clause-decided
returns-in-Err-clause-decided g c =
    opening_refusal (g.D.Disk.trace c.args.disk.now) (g.D.Disk.trace c.args.disk.now) c.in-Err.fault c.from.result refl c.from.ensures c.in-Err.ensures.decided

pub returns-in-Err-clause-any_moment : goal.returns-in-Err-clause-any_moment
returns-in-Err-clause-any_moment g c = (removal_unopened (g.D.Disk.trace c.args.disk.now) (g.D.Disk.trace c.open.new.disk) c.in-Err.ensures.ended).0

pub returns-in-Err-clause-labels : goal.returns-in-Err-clause-labels
returns-in-Err-clause-labels g c = (removal_unopened (g.D.Disk.trace c.args.disk.now) (g.D.Disk.trace c.open.new.disk) c.in-Err.ensures.ended).1
