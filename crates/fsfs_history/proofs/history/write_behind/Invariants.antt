use Rattle.std.proofs.Common.{◌≤◌, ℕ}
use Rattle.std.specs.Prelude.{IfSome}
use Rattle.fsfs_revision.specs.Told.{RevisionBytes, Knows, Keeps}
use Rattle.fsfs_history.specs.Points.{point_value, IsWithin, BehindText, LeftBehind, left_height}
use Rattle.fsfs_look.proofs.ProgressLemmas.{Progress}
use Rattle.fsfs_history.proofs.history.write_behind.Given as goal

abbrev pub invariant-loop-left : goal.invariant-loop-left
invariant-loop-left g l = record {
  kept : Keeps (g.B.Book.told l.fn.book) (g.B.Book.told l.book);
  later : g.B.Book.faults l.fn.book ≤ g.B.Book.faults l.book;
  sink : g.S.Sink.faults l.fn.sink ≤ g.S.Sink.faults l.sink;
  within : (top : ℕ) → IsWithin top l.fn.at → IfSome l.left (IsWithin top);
  text : (top : ℕ) (look : RevisionBytes) → Knows (g.B.Book.told l.fn.book).revs top look → IsWithin top l.fn.at
      → Progress (BehindText look (point_value l.fn.at)) (LeftBehind look l.left) l.fn.lines.items l.lines.items (g.S.Sink.written l.fn.sink) (g.S.Sink.written l.sink);
}

abbrev pub decreases-loop-left : goal.decreases-loop-left
decreases-loop-left g l = left_height l.left
