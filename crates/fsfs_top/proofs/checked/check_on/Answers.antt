use Rattle.std.proofs.Common.{[], refl, sym, subst}
use Rattle.std.specs.Prelude.{None, Some, Result, IfErr}
use Rattle.fsfs_base.specs.Failures.{Rose}
use Rattle.fsfs_look.specs.Written.{IfDisk, IfWrite}
use Rattle.fsfs_look.specs.declared.look_error.LookError.{LookError}
use Rattle.fsfs_top.specs.Looks.{IsFaultOf}
use Rattle.fsfs_top.proofs.LooksPrint.{fault_with_cause}
use Rattle.fsfs_top.proofs.checked.check_on.Goals as goal

pub returns-in-Ok-clause-checked : goal.returns-in-Ok-clause-checked
returns-in-Ok-clause-checked g c =
    let rose = Rose (g.D.Disk.faults c.args.disk) (g.D.Disk.faults c.check-disk.result.0) in
    record { result = c.check-disk.result.1; finds = c.check-disk.ensures.told; fault_is = subst (λ (r : Result (Unit {0}) LookError). IsFaultOf rose ⊥ [] r None) (sym c.in-Ok.is) refl }

pub returns-in-Err-clause-checked : goal.returns-in-Err-clause-checked
returns-in-Err-clause-checked g c =
    let rose = Rose (g.D.Disk.faults c.args.disk) (g.D.Disk.faults c.check-disk.result.0) in
    let by_disk = subst (λ (r : Result (Unit {0}) LookError). IfErr r (λ e. IfDisk e rose)) c.in-Err.is c.check-disk.ensures.cause.failed in
    let unwritten = subst (λ (r : Result (Unit {0}) LookError). IfErr r (λ e. IfWrite e ⊥)) c.in-Err.is c.check-disk.ensures.unwritten in
    record {
      result = c.check-disk.result.1;
      finds = c.check-disk.ensures.told;
      fault_is = subst (λ (r : Result (Unit {0}) LookError). IsFaultOf rose ⊥ [] r (Some c.fault_of_all.result)) (sym c.in-Err.is) (fault_with_cause rose ⊥ [] c.in-Err.error c.fault_of_all.result c.fault_of_all.ensures by_disk unwritten);
    }
