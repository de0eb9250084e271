use Rattle.std.proofs.Common.{◌≡◌, ◌≤◌, ℕ, Some, [], ◌++◌, drop, map, length}
use Rattle.std.specs.String.{string_bytes}
use Rattle.fsfs_base.specs.Paths.{Path}
use Rattle.fsfs_tree.specs.Nodes.{TreeFunction}
use Rattle.fsfs_base.specs.declared.kind.Kind.TheVariants.{Dir}
use Rattle.fsfs_revision.specs.Told.{RevisionBytes, Knows, Keeps}
use Rattle.fsfs_draft.specs.Own.{Own as Owns, OwnNode, draft_tree}
use Rattle.fsfs_draft.specs.Drafts.{IsDraft, ShowTrees}
use Rattle.fsfs_draft.specs.Walks.{IsAt, HasKind}
use Rattle.fsfs_txn.specs.Edits.Mergeinfo.{CountsTo}
use Rattle.fsfs_txn.proofs.seeing.seen_below.Given as goal

-- what the walk came to stands at the names so far, and so are the counts that were met
abbrev pub invariant-loop-name : goal.invariant-loop-name
invariant-loop-name g l = record {
  deep : l.depth ≡ l.name-index;
  later : g.B.Book.faults l.fn.book ≤ g.B.Book.faults l.book;
  kept : Keeps (g.B.Book.told l.fn.book) (g.B.Book.told l.book);
  draft : (look : RevisionBytes) (trees : ℕ → TreeFunction) (top base : ℕ) (nodes : Owns) (v : OwnNode) → Knows (g.B.Book.told l.fn.book).revs top look → ShowTrees look top trees → base ≤ top → IsDraft look top base (g.N.Own.txn l.own) (g.N.Own.folder l.own) nodes → nodes [] ≡ Some v → v.node.id ≡ l.fn.root → v.node.kind ≡ Dir
      → (front : Path) × (front ++ map string_bytes (drop l.name-index l.name-items) ≡ l.path) × (l.depth ≡ length front) × IsAt look trees base nodes front l.at.step × HasKind (draft_tree trees nodes (trees base) front) l.at.kind × CountsTo look trees base nodes l.path l.depth l.counted;
}
