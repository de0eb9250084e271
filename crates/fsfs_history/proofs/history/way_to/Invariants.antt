use Rattle.std.proofs.Common.{◌≡◌, ◌≤◌, ℕ, drop, map, Result}
use Rattle.std.specs.String.{string_bytes}
use Rattle.fsfs_base.specs.Paths.{Path}
use Rattle.fsfs_revision.specs.Told.{RevisionBytes, Knows, Keeps}
use Rattle.fsfs_noderev.specs.declared.node_rev.NodeRev.{NodeRev}
use Rattle.fsfs_revision.specs.declared.wrong.Wrong.{Wrong}
use Rattle.fsfs_revision.specs.Shows.Reading.{MetFrom, MetAt, Met}
use Rattle.fsfs_dag.specs.Views.{home_of}
use Rattle.fsfs_revision.specs.Ancestry.CopyRoots.{IsRootedFrom, IsRootedAt}
use Rattle.fsfs_history.specs.Points.{root_value}
use Rattle.fsfs_history.proofs.history.way_to.Given as goal

-- what is met from here on is met from the root on, and so is the latest copy root
abbrev pub invariant-loop-name : goal.invariant-loop-name
invariant-loop-name g l = record {
  depth : l.depth ≡ l.name-index;
  kept : Keeps (g.B.Book.told l.fn.book) (g.B.Book.told l.book);
  count : g.B.Book.faults l.fn.book ≤ g.B.Book.faults l.book;
  below : (home_of l.node.node).rev ≤ l.fn.rev;
  root : l.root.rev ≤ l.fn.rev;
  met : (look : RevisionBytes) → Knows (g.B.Book.told l.fn.book).revs l.fn.rev look → (r : Result Met Wrong) → MetFrom look l.node.node l.depth (map string_bytes (drop l.name-index l.name-items)) r → MetAt look l.fn.rev l.path r;
  rooted : (look : RevisionBytes) → Knows (g.B.Book.told l.fn.book).revs l.fn.rev look → (v : NodeRev) (last : ℕ × Path) → IsRootedFrom look l.node.node (root_value l.root) (map string_bytes (drop l.name-index l.name-items)) v last → IsRootedAt look l.fn.rev l.path v last;
}
