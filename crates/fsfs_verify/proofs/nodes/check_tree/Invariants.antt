use Rattle.std.proofs.Common.{◌≡◌, ◌≤◌, ◌<◌, length}
use Rattle.std.specs.Prelude.{option_map}
use Rattle.fsfs_noderev.specs.declared.node_rev.NodeRev.{NodeRev}
use Rattle.fsfs_revision.specs.Told.{RevisionBytes, Knows, Keeps}
use Rattle.fsfs_dag.specs.TreeWalks.{left, total}
use Rattle.fsfs_verify.specs.AllWritten.{HoldsTree}
use Rattle.fsfs_verify.specs.Roots.{IsLastRoot}
use Rattle.fsfs_verify.specs.Walks.{HasWalk}
use Rattle.fsfs_sound.specs.Revisions.{AreSoundBefore}
use Rattle.fsfs_verify.proofs.nodes.check_tree.Given as goal

-- all that was taken was checked, and what is left stands below the directories above
abbrev pub invariant-entries : goal.invariant-entries
invariant-entries g l = record {
  kept : Keeps (g.B.Book.told l.fn.book) (g.B.Book.told l.book);
  later : g.B.Book.faults l.fn.book ≤ g.B.Book.faults l.book;
  rev : l.nodes.rev ≡ l.fn.rev;
  room : 0 < length l.nodes.piece.items;
  above : 0 < length l.nodes.above.items;
  walk : (look props : RevisionBytes) → Knows (g.B.Book.told l.fn.book).revs l.fn.rev look → AreSoundBefore look props l.fn.rev → HoldsTree look l.fn.rev l.fn.rev l.fn.parts
      → IsLastRoot look l.fn.rev (option_map (λ v. v.now.node) l.fn.last) → (root : NodeRev) × HasWalk look l.fn.rev root (left l.nodes.walk) l.nodes l.parts;
}

abbrev pub decreases-entries : goal.decreases-entries
decreases-entries g l = total (left l.nodes.walk)
