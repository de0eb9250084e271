use Rattle.std.proofs.Common.{◌≤◌, ℕ}
use Rattle.fsfs_base.specs.Paths.{Path}
use Rattle.fsfs_revision.specs.Told.{RevisionBytes, Knows, Keeps}
use Rattle.fsfs_merge.specs.Clash.Points.{Point, IsSeen}
use Rattle.fsfs_merge.specs.Clash.UnderWay.{IsUnderWay, IsWalk}
use Rattle.fsfs_merge.specs.Clash.Weights.{total}
use Rattle.fsfs_merge.proofs.clash.walk.walk.Given as goal

abbrev pub invariant-loop-next : goal.invariant-loop-next
invariant-loop-next g l = record {
  kept : Keeps (g.B.Book.told l.fn.book) (g.B.Book.told l.book);
  later : g.B.Book.faults l.fn.book ≤ g.B.Book.faults l.book;
  found : (look : RevisionBytes) (top : ℕ) (see : Path → Point) → Knows (g.B.Book.told l.fn.book).revs top look → IsSeen look top (g.N.Own.folder l.own) l.base see → IsWalk see l.fn.todo.items → IsUnderWay see l.walk.todo.items l.walk.first l.walk.dirs.items;
}

abbrev pub decreases-loop-next : goal.decreases-loop-next
decreases-loop-next g l = total l.walk.todo.items
