use Rattle.std.proofs.Common.{◌≡◌, ◌≤◌, ℕ, []}
use Rattle.fsfs_revision.specs.Told.{RevisionBytes, Knows, Keeps}
use Rattle.fsfs_look.proofs.ProgressLemmas.{Progress}
use Rattle.fsfs_stands.specs.ChangedTexts.{LinesText, end_of, in_order}
use Rattle.fsfs_history.specs.KeptDirs.{IsKept}
use Rattle.fsfs_history.specs.Views.{by_text_value}
use Rattle.fsfs_history.proofs.changed.write_items.Given as goal

-- the lines of the items so far are written, but for those that are kept
abbrev pub invariant-loop-item : goal.invariant-loop-item
invariant-loop-item g l = record {
  kept : Keeps (g.B.Book.told l.fn.book) (g.B.Book.told l.book);
  later : g.B.Book.faults l.fn.book ≤ g.B.Book.faults l.book;
  sink : g.S.Sink.faults l.fn.sink ≤ g.S.Sink.faults l.sink;
  dir : (look : RevisionBytes) → Knows (g.B.Book.told l.fn.book).revs l.fn.rev look → IsKept look l.kept;
  text : (look : RevisionBytes) → Knows (g.B.Book.told l.fn.book).revs l.fn.rev look
      → Progress (LinesText look l.fn.rev (by_text_value l.items) (end_of l.wrong) (in_order (by_text_value l.items)))
      (LinesText look l.fn.rev (by_text_value l.items) (end_of l.wrong) l.item-iterator) [] l.lines.items (g.S.Sink.written l.fn.sink) (g.S.Sink.written l.sink);
}
