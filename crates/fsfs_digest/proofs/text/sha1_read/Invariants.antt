use Rattle.std.proofs.Common.{◌≡◌, ◌≤◌, ◌-◌, ℕ, List, Some, Ok, Err, length, take}
use Rattle.sha1.specs.Sha1.{Holds}
use Rattle.fsfs_revision.specs.declared.wrong.Refusal.{Refusal}
use Rattle.fsfs_revision.specs.Told.{Keeps}
use Rattle.fsfs_revision.specs.Rep.Frames.{rev_of, text_of}
use Rattle.fsfs_revision.specs.Rep.Reading.{IsReading}
use Rattle.fsfs_digest.proofs.text.sha1_read.Given as goal

-- the first bytes of the text are read and digested
abbrev pub invariant-pieces : goal.invariant-pieces
invariant-pieces g l = record {
  rep : l.reader.rep ≡ l.fn.rep;
  room : length l.piece ≡ length l.fn.piece;
  read : (bytes : List ℕ) → (g.B.Book.told l.fn.book).revs (rev_of l.fn.rep) ≡ Some (Ok bytes) → IsReading l.reader bytes × Holds l.digest (take l.reader.done (text_of l.fn.rep bytes));
  there : (why : Refusal) → (g.B.Book.told l.fn.book).revs (rev_of l.fn.rep) ≡ Some (Err why) → ⊥;
  kept : Keeps (g.B.Book.told l.fn.book) (g.B.Book.told l.book);
  later : g.B.Book.faults l.fn.book ≤ g.B.Book.faults l.book;
}

abbrev pub decreases-pieces : goal.decreases-pieces
decreases-pieces g l = l.reader.rep.length - l.reader.done
