use Rattle.std.proofs.Common.{◌≡◌, ◌≤◌, ℕ, Some, [], ◌++◌, drop, map}
use Rattle.std.specs.String.{string_bytes}
use Rattle.fsfs_base.specs.Paths.{Path}
use Rattle.fsfs_tree.specs.Nodes.{TreeFunction}
use Rattle.fsfs_revision.specs.Told.{RevisionBytes, Knows, Keeps}
use Rattle.fsfs_draft.specs.Own.{Own as Owns, OwnNode, draft_tree}
use Rattle.fsfs_draft.specs.Drafts.{IsDraft, ShowTrees}
use Rattle.fsfs_edit.specs.DagEdits.Mutable.{LeadsTo}
use Rattle.fsfs_txn.specs.Opened.Knowing.{AreKnown}
use Rattle.fsfs_txn.specs.Opened.Stepping.{IsIdAt}
use Rattle.fsfs_txn.proofs.Walked.{LeadsSoFar}
use Rattle.fsfs_txn.proofs.opened.opening.known_to.Given as goal

-- all so far is known, and leads to where the walk came to
abbrev pub invariant-loop-name : goal.invariant-loop-name
invariant-loop-name g l = record {
  kept : Keeps (g.B.Book.told l.fn.book) (g.B.Book.told l.book);
  later : g.B.Book.faults l.fn.book ≤ g.B.Book.faults l.book;
  known : (look : RevisionBytes) (top : ℕ) → Knows (g.B.Book.told l.fn.book).revs top look → AreKnown look top l.known.items;
  leads : (look : RevisionBytes) (trees : ℕ → TreeFunction) (top base : ℕ) (nodes : Owns) (v : OwnNode) → Knows (g.B.Book.told l.fn.book).revs top look → ShowTrees look top trees → base ≤ top → IsDraft look top base (g.N.Own.txn l.own) (g.N.Own.folder l.own) nodes → nodes [] ≡ Some v → v.node.id ≡ l.root → LeadsTo (draft_tree trees nodes (trees base)) l.path
      → (front : Path) × (front ++ map string_bytes (drop l.name-index l.name-items) ≡ l.path) × IsIdAt look trees base nodes front l.at × LeadsSoFar look (g.N.Own.folder l.own) l.known.items front l.root l.at;
}
