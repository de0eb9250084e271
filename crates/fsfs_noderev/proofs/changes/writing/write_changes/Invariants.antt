use Rattle.std.proofs.Common.{take}
use Rattle.fsfs_noderev.specs.Changes.Texts.{AreChanges}
use Rattle.fsfs_noderev.proofs.changes.writing.write_changes.Given as goal

abbrev pub invariant-loop-item : goal.invariant-loop-item
invariant-loop-item l = AreChanges l.out.items (take l.item-index l.items)
