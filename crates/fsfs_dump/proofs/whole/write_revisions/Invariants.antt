use Rattle.std.proofs.Common.{◌≤◌, ◌-◌, ℕ, suc, List}
use Rattle.fsfs_revision.specs.Told.{RevisionBytes, Knows, Keeps}
use Rattle.fsfs_look.specs.Walks.{Walks}
use Rattle.fsfs_dump.specs.Texts.{RevisionsText}
use Rattle.fsfs_dump.proofs.WalkLemmas.{Written, Answer}
use Rattle.fsfs_dump.proofs.whole.write_revisions.Given as goal

-- whatever comes of the revisions that are left goes on behind what was written and is kept
abbrev pub invariant-revisions : goal.invariant-revisions
invariant-revisions g l = record {
  within : l.next ≤ suc l.fn.youngest;
  kept : Keeps (g.B.Book.told l.fn.book) (g.B.Book.told l.book);
  later : g.B.Book.faults l.fn.book ≤ g.B.Book.faults l.book;
  sink : g.S.Sink.faults l.fn.sink ≤ g.S.Sink.faults l.sink;
  goes : (look : RevisionBytes) → Knows (g.B.Book.told l.fn.book).revs l.fn.youngest look → (r : Answer) (now : List ℕ) (new : Written)
      → Walks (RevisionsText look (g.B.RevProps.may_read l.fn.book) l.next (suc l.fn.youngest - l.next)) l.lines.items now (g.S.Sink.written l.sink) new r
      → Walks (RevisionsText look (g.B.RevProps.may_read l.fn.book) 0 (suc l.fn.youngest)) l.fn.lines.items now (g.S.Sink.written l.fn.sink) new r;
}

abbrev pub decreases-revisions : goal.decreases-revisions
decreases-revisions g l = suc l.fn.youngest - l.next
