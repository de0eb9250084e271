use Rattle.std.proofs.Common.{◌≡◌, ◌≤◌, ◌-◌, ℕ, List, Some, Ok, length, take}
use Rattle.fsfs_revision.specs.Told.{Keeps}
use Rattle.fsfs_base.specs.Streams.{Adds}
use Rattle.fsfs_revision.specs.Rep.Frames.{rev_of, text_of, IsWhole}
use Rattle.fsfs_dump.proofs.again.write_again.Given as goal

-- the first bytes of the text were written
abbrev pub invariant-pieces : goal.invariant-pieces
invariant-pieces g l = record {
  within : l.done ≤ l.fn.rep.length;
  room : length l.piece ≡ length l.fn.piece;
  read : (bytes : List ℕ) → (g.B.Book.told l.fn.book).revs (rev_of l.fn.rep) ≡ Some (Ok bytes) → IsWhole l.fn.rep bytes → Adds (g.S.Sink.written l.fn.sink) (g.S.Sink.written l.sink) (take l.done (text_of l.fn.rep bytes));
  kept : Keeps (g.B.Book.told l.fn.book) (g.B.Book.told l.book);
  later : g.B.Book.faults l.fn.book ≤ g.B.Book.faults l.book;
  sink : g.S.Sink.faults l.fn.sink ≤ g.S.Sink.faults l.sink;
}

abbrev pub decreases-pieces : goal.decreases-pieces
decreases-pieces g l = l.fn.rep.length - l.done
