use Rattle.std.proofs.Common.{◌≡◌, ◌≤◌, ◌<◌, ℕ}
use Rattle.std.specs.Prelude.{Some, Ok, slice_get}
use Rattle.fsfs_noderev.specs.declared.changes.item.ChangeItem.{ChangeItem}
use Rattle.fsfs_revision.specs.Told.{RevisionBytes, Knows, Keeps}
use Rattle.fsfs_revision.specs.Shows.Reading.{RootOf}
use Rattle.fsfs_sound.specs.Revisions.{IsSoundItem}
use Rattle.fsfs_verify.specs.ReadDirs.{AreDirs}
use Rattle.fsfs_verify.proofs.items.check_items.Given as goal

-- the items so far say what the tree says
abbrev pub invariant-loop-item : goal.invariant-loop-item
invariant-loop-item g l = record {
  before : l.before ≡ l.item-index;
  kept : Keeps (g.B.Book.told l.fn.book) (g.B.Book.told l.book);
  later : g.B.Book.faults l.fn.book ≤ g.B.Book.faults l.book;
  told : (look : RevisionBytes) → Knows (g.B.Book.told l.fn.book).revs l.fn.rev look → RootOf look l.fn.rev (Ok l.fn.root.node)
      → AreDirs look l.fn.rev l.dirs × ((k : ℕ) (item : ChangeItem) → k < l.item-index → slice_get l.item-items k ≡ Some item → IsSoundItem look l.fn.rev item);
}
