use Rattle.std.proofs.Common.{◌≡◌, ◌≤◌, length, reverse}
use Rattle.std.specs.Prelude.{vec_len}
use Rattle.std.specs.HashMap.{spare}
use Rattle.fsfs_txn_nodes.specs.Memory.Lists.{files_of, with_steps}
use Rattle.fsfs_txn_nodes.proofs.memory.nodes.put_steps.Given as goal

-- those that are left, the newest first, lead to the files of all; and there is room for them
abbrev pub invariant-loop-step : goal.invariant-loop-step
invariant-loop-step l = record {
  files : with_steps (reverse l.steps.items) (files_of l.nodes) ≡ with_steps l.fn.steps.items (files_of l.fn.nodes);
  room : vec_len l.steps ≤ spare l.nodes;
}

abbrev pub decreases-loop-step : goal.decreases-loop-step
decreases-loop-step l = length l.steps.items
