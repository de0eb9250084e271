use Rattle.std.proofs.Common.{◌≤◌, ℕ, List}
use Rattle.fsfs_revision.specs.Told.{RevisionBytes, Knows, Keeps}
use Rattle.fsfs_stands.specs.ChangedTexts.{end_of, in_order}
use Rattle.fsfs_look.specs.Walks.{Walks}
use Rattle.fsfs_history.specs.Views.{by_text_value}
use Rattle.fsfs_dump.specs.Texts.{ItemsText}
use Rattle.fsfs_dump.proofs.WalkLemmas.{Written, Answer}
use Rattle.fsfs_dump.proofs.revision.write_items.Given as goal

-- whatever comes of the items that are left goes on behind what was written and is kept
abbrev pub invariant-loop-item : goal.invariant-loop-item
invariant-loop-item g l = record {
  kept : Keeps (g.B.Book.told l.fn.book) (g.B.Book.told l.book);
  later : g.B.Book.faults l.fn.book ≤ g.B.Book.faults l.book;
  sink : g.S.Sink.faults l.fn.sink ≤ g.S.Sink.faults l.sink;
  goes : (look : RevisionBytes) → Knows (g.B.Book.told l.fn.book).revs l.fn.rev look → (r : Answer) (now : List ℕ) (new : Written)
      → Walks (ItemsText look l.fn.rev (end_of l.wrong) l.item-iterator) l.lines.items now (g.S.Sink.written l.sink) new r
      → Walks (ItemsText look l.fn.rev (end_of l.wrong) (in_order (by_text_value l.items))) l.fn.lines.items now (g.S.Sink.written l.fn.sink) new r;
}
