-- At the end no step is left, so the invariant speaks of all outcomes.
use Rattle.std.proofs.Common.{◌≡◌, ◌++◌, [], length, refl, subst, sym, append-nil, arith}
use Rattle.std.proofs.lemmas.List.{nil_from_length}
use Rattle.fsfs_machine.specs.Machine.{Runs}
use Rattle.fsfs_machine.proofs.Running.{run_keeps}
use Rattle.fsfs_core.specs.State.{world_of}
use Rattle.fsfs_core.proofs.state.State.run.Goals as goal

pub returns : goal.returns
returns c =
    let w = world_of c.args.self.now in
    let v = world_of c.loop-step.self in
    let no_length : length c.loop-step.steps.items ≡ 0 = omega (arith, c.in_default.ensures.cases.0, c.loop-step.steps.ok.0) in
    let over : c.loop-step.steps.items ≡ [] = nil_from_length c.loop-step.steps.items no_length in
    let all : Runs w c.args.steps.items (c.loop-step.outcomes.items ++ []) v = c.loop-step.invariant [] v (subst (λ xs. Runs v xs [] v) (sym over) (refl, refl)) in
    let runs : Runs w c.args.steps.items c.loop-step.outcomes.items v = subst (λ os. Runs w c.args.steps.items os v) (append-nil _) all in
    record { runs = runs; kept = run_keeps w v c.args.steps.items c.loop-step.outcomes.items runs }
