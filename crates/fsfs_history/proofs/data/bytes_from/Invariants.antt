use Rattle.std.proofs.Common.{◌≡◌, ◌≤◌, ℕ, List, length, take, drop, Some, Ok}
use Rattle.fsfs_revision.specs.Told.{RevisionBytes, Keeps, IsTold}
use Rattle.fsfs_history.proofs.data.bytes_from.Given as goal

-- the bytes so far are the first from the place on
abbrev pub invariant-loop : goal.invariant-loop
invariant-loop g l = record {
  so_far : (look : RevisionBytes) → IsTold (g.B.Book.told l.fn.book) look l.fn.rev → (bytes : List ℕ) → look l.fn.rev ≡ Ok bytes → l.fn.from ≤ length bytes → l.bytes.items ≡ take (length l.bytes.items) (drop l.fn.from bytes);
  kept : Keeps (g.B.Book.told l.fn.book) (g.B.Book.told l.book);
  later : g.B.Book.faults l.fn.book ≤ g.B.Book.faults l.book;
  room : length l.piece ≡ 65536;
}
