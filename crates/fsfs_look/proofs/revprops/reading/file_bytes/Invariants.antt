use Rattle.std.proofs.Common.{◌≤◌, ℕ, List, Result}
use Rattle.fsfs_revision.specs.declared.wrong.Refusal.{Refusal}
use Rattle.fsfs_revision.specs.Told.{Keeps}
use Rattle.fsfs_look.proofs.revprops.reading.file_bytes.Given as goal

-- nothing is kept of what was read so far
abbrev pub invariant-loop : goal.invariant-loop
invariant-loop g l = record {
  fewer : (r : ℕ) (read : Result (List ℕ) Refusal) → g.B.RevProps.may_read l.book r read → g.B.RevProps.may_read l.fn.book r read;
  kept : Keeps (g.B.Book.told l.fn.book) (g.B.Book.told l.book);
  later : g.B.Book.faults l.fn.book ≤ g.B.Book.faults l.book;
}
