use Rattle.std.proofs.Common.{◌≡◌, ◌≤◌, drop, map, Result}
use Rattle.std.specs.String.{string_bytes}
use Rattle.fsfs_revision.specs.Told.{RevisionBytes, Knows, Keeps}
use Rattle.fsfs_revision.specs.declared.wrong.Wrong.{Wrong}
use Rattle.fsfs_revision.specs.Shows.Reading.{MetFrom, MetAt, Met}
use Rattle.fsfs_dag.specs.Views.{home_of}
use Rattle.fsfs_dag.proofs.walk.node_at.Given as goal

-- what is met from here on is met from the root on
abbrev pub invariant-loop-name : goal.invariant-loop-name
invariant-loop-name g l = record {
  depth : l.depth ≡ l.name-index;
  kept : Keeps (g.B.Book.told l.fn.book) (g.B.Book.told l.book);
  count : g.B.Book.faults l.fn.book ≤ g.B.Book.faults l.book;
  below : (home_of l.node.node).rev ≤ l.fn.rev;
  met : (look : RevisionBytes) → Knows (g.B.Book.told l.fn.book).revs l.fn.rev look → (r : Result Met Wrong) → MetFrom look l.node.node l.depth (map string_bytes (drop l.name-index l.name-items)) r → MetAt look l.fn.rev l.path r;
}
