use Rattle.std.proofs.Common.{◌≡◌, ◌≤◌, length}
use Rattle.fsfs_draft.specs.Steps.{Files}
use Rattle.fsfs_txn_nodes.specs.Memory.Keys.{at_key}
use Rattle.fsfs_txn_nodes.specs.Memory.Lists.{with_steps}
use Rattle.fsfs_txn_nodes.proofs.memory.edit_steps.last_of.Given as goal

-- none behind those that are left is at the key
abbrev pub invariant-loop-left : goal.invariant-loop-left
invariant-loop-left l = record {
  within : length l.left ≤ length l.steps;
  same : (files : Files) → at_key (with_steps l.steps files) l.key ≡ at_key (with_steps l.left files) l.key;
}

abbrev pub decreases-loop-left : goal.decreases-loop-left
decreases-loop-left l = length l.left
