use Rattle.std.proofs.Common.{◌≡◌, ◌≤◌}
use Rattle.std.specs.Prelude.{IfSome}
use Rattle.fsfs_noderev.specs.declared.node_id.NodeId.{NodeId}
use Rattle.fsfs_revision.specs.Shows.Reading.{offset_of}
use Rattle.fsfs_revision.specs.Told.{RevisionBytes, Knows, Keeps}
use Rattle.fsfs_dag.specs.Views.{home_of}
use Rattle.fsfs_verify.proofs.ChainLemmas.{IsChainLeft, chain_rank}
use Rattle.fsfs_verify.proofs.copies.has_part.Given as goal

-- the chain was looked at so far, and none on the way has the part
abbrev pub invariant-back : goal.invariant-back
invariant-back g l = record {
  kept : Keeps (g.B.Book.told l.fn.book) (g.B.Book.told l.book);
  later : g.B.Book.faults l.fn.book ≤ g.B.Book.faults l.book;
  up_to : IfSome l.left (λ (id : NodeId). (offset_of id.place).rev ≤ (home_of l.fn.node.node).rev);
  told : (look : RevisionBytes) → Knows (g.B.Book.told l.fn.book).revs (home_of l.fn.node.node).rev look → IsChainLeft look l.fn.part l.fn.node.node l.left;
}

abbrev pub decreases-back : goal.decreases-back
decreases-back g l = chain_rank l.left
