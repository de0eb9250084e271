use Rattle.std.proofs.Common.{◌≡◌, ◌≤◌, ◌++◌, ℕ, List, length}
use Rattle.fsfs_noderev.specs.Changes.Texts.{AreRevisionChanges}
use Rattle.fsfs_noderev.specs.declared.changes.item.ChangeItem.{ChangeItem}
use Rattle.fsfs_verify.proofs.ItemPlaces.{AreLeft}
use Rattle.fsfs_verify.proofs.items.skip_items.Given as goal

-- so many items of a text were taken
abbrev pub invariant-loop-done : goal.invariant-loop-done
invariant-loop-done l = record {
  within : length l.rest ≤ length l.bytes;
  left : (items : List ChangeItem) (front tail : List ℕ) → l.bytes ≡ front ++ tail → AreRevisionChanges front items → length items ≡ l.count → AreLeft items tail l._done l.rest;
}
