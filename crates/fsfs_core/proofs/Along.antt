-- What the code did, it keeps.
use Rattle.std.proofs.Common.{List, ◌∷◌, refl}
use Rattle.std.specs.Prelude.{Result, Ok, Err, IfOk}
use Rattle.fsfs_machine.specs.declared.machine.Outcome.{Outcome}
use Rattle.fsfs_machine.specs.declared.machine.Step.{Step}
use Rattle.fsfs_machine.specs.Machine.{World, did, Happens, Runs}
use Rattle.fsfs_machine.specs.Kept.{Kept, Keeps}
use Rattle.fsfs_machine.proofs.Steps.{step_keeps}

pub kept_along : {E : Type 0} (r : Result Outcome E) (w v : World) (s : Step) → IfOk r (λ o. Happens w s (did v o)) → IfOk r (λ o. Kept w → Keeps w s (did v o))
kept_along (Ok o) w v s e = λ k. step_keeps w s (did v o) e k
kept_along (Err x) w v s e = tt
