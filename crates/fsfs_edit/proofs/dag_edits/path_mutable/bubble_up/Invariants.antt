use Rattle.std.proofs.Common.{◌≡◌, ◌≤◌, ℕ, Some, [], ◌++◌, drop, map}
use Rattle.std.specs.String.{string_bytes}
use Rattle.fsfs_base.specs.Paths.{Path}
use Rattle.fsfs_tree.specs.Nodes.{TreeFunction}
use Rattle.fsfs_revision.specs.Told.{RevisionBytes, Knows, Keeps}
use Rattle.fsfs_draft.specs.Own.{Own as Owns, OwnNode, draft_tree}
use Rattle.fsfs_draft.specs.Drafts.{IsDraft, ShowTrees}
use Rattle.fsfs_edit.specs.DagEdits.Mutable.{LeadsTo, IsSameDraft, OpensTo}
use Rattle.fsfs_edit.proofs.dag_edits.path_mutable.bubble_up.Given as goal

-- all so far is the transaction's own, and the tree is as it was
abbrev pub invariant-loop-name : goal.invariant-loop-name
invariant-loop-name g l = record {
  kept : Keeps (g.B.Book.told l.fn.book) (g.B.Book.told l.book);
  later : g.B.Book.faults l.fn.book ≤ g.B.Book.faults l.book;
  bench : g.N.Own.faults l.own ≡ g.N.Own.faults l.fn.own;
  proto : (g.N.Own.folder l.own).proto ≡ (g.N.Own.folder l.fn.own).proto;
  settled : g.N.Own.settled l.own ≡ g.N.Own.settled l.fn.own;
  name : g.N.Own.txn l.own ≡ g.N.Own.txn l.fn.own;
  draft : (look : RevisionBytes) (trees : ℕ → TreeFunction) (top base : ℕ) (nodes : Owns) (v : OwnNode) → Knows (g.B.Book.told l.fn.book).revs top look → ShowTrees look top trees → base ≤ top → IsDraft look top base (g.N.Own.txn l.fn.own) (g.N.Own.folder l.fn.own) nodes → nodes [] ≡ Some v → v.node.id ≡ l.fn.root → LeadsTo (draft_tree trees nodes (trees base)) l.path
      → (front : Path) × (front ++ map string_bytes (drop l.name-index l.name-items) ≡ l.path) × (now : Owns) × IsSameDraft look trees top base (g.N.Own.txn l.fn.own) nodes (g.N.Own.folder l.own) now × (w : OwnNode) × (now front ≡ Some w) × (w.node.id ≡ l.id)
      × OpensTo look trees top base (g.N.Own.txn l.fn.own) (g.N.Own.folder l.fn.own) nodes [] (g.N.Own.folder l.own) now front;
}
