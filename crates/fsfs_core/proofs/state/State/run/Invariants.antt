use Rattle.std.proofs.Common.{◌++◌, List, length}
use Rattle.fsfs_machine.specs.declared.machine.Outcome.{Outcome}
use Rattle.fsfs_machine.specs.Machine.{World, Runs}
use Rattle.fsfs_core.specs.State.{world_of}
use Rattle.fsfs_core.proofs.state.State.run.Given as goal

abbrev pub invariant-loop-step : goal.invariant-loop-step
invariant-loop-step l = (more : List Outcome) (v : World) → Runs (world_of l.self) l.steps.items more v → Runs (world_of l.fn.self) l.fn.steps.items (l.outcomes.items ++ more) v

abbrev pub decreases-loop-step : goal.decreases-loop-step
decreases-loop-step l = length l.steps.items
