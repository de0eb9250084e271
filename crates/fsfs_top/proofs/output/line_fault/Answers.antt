use Rattle.std.proofs.Common.{inl, inr, refl, subst}
use Rattle.std.specs.Prelude.{Result}
use Rattle.fsfs_base.specs.declared.failed.Failed.{Failed}
use Rattle.fsfs_base.specs.Output.{Prints}
use Rattle.fsfs_top.proofs.output.line_fault.Goals as goal

pub returns-in-Ok : goal.returns-in-Ok
returns-in-Ok c = λ line old new printed.
    let now = subst (λ (r : Result (Unit {0}) Failed). Prints old.written new.written line old.faults new.faults r) c.in-Ok.is printed in
    inl (refl, now.whole)

pub returns-in-Err : goal.returns-in-Err
returns-in-Err c = λ line old new printed.
    let now = subst (λ (r : Result (Unit {0}) Failed). Prints old.written new.written line old.faults new.faults r) c.in-Err.is printed in
    inr (refl, now.failed, now.part)
