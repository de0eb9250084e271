use Rattle.std.proofs.Common.{◌≡◌, ◌≤◌, ℕ, List, Some, [], ◌++◌, drop, map}
use Rattle.std.specs.String.{string_bytes}
use Rattle.fsfs_base.specs.Paths.{Path}
use Rattle.fsfs_tree.specs.Nodes.{TreeFunction}
use Rattle.fsfs_revision.specs.Told.{RevisionBytes}
use Rattle.fsfs_draft.specs.Own.{Own as Owns, OwnNode}
use Rattle.fsfs_draft.specs.Drafts.{IsDraft, ShowTrees}
use Rattle.fsfs_edit.specs.DagEdits.Mutable.{IsSameDraft, OpensTo}
use Rattle.fsfs_txn.specs.Opened.Knowing.{AreKnown}
use Rattle.fsfs_txn.specs.declared.opened.known.Known.{Known}
use Rattle.fsfs_noderev.specs.declared.node_id.NodeId.{NodeId}
use Rattle.fsfs_txn.specs.Opened.Leading.{LeadsDown}
use Rattle.fsfs_txn.proofs.opened.reaching.reach.Given as goal

-- all so far is the transaction's own, and the tree is as it was
abbrev pub invariant-loop-name : goal.invariant-loop-name
invariant-loop-name g l = record {
  bench : g.N.Own.faults l.own ≡ g.N.Own.faults l.fn.own;
  proto : (g.N.Own.folder l.own).proto ≡ (g.N.Own.folder l.fn.own).proto;
  settled : g.N.Own.settled l.own ≡ g.N.Own.settled l.fn.own;
  name : g.N.Own.txn l.own ≡ g.N.Own.txn l.fn.own;
  draft : (look : RevisionBytes) (trees : ℕ → TreeFunction) (top base : ℕ) (nodes : Owns) (v : OwnNode) → AreKnown look top l.known → ShowTrees look top trees → base ≤ top → IsDraft look top base (g.N.Own.txn l.fn.own) (g.N.Own.folder l.fn.own) nodes → nodes [] ≡ Some v → v.node.id ≡ l.fn.root
      → (front : Path) × (front ++ map string_bytes (drop l.name-index l.name-items) ≡ l.path) × (now : Owns) × IsSameDraft look trees top base (g.N.Own.txn l.fn.own) nodes (g.N.Own.folder l.own) now × (w : OwnNode) × (now front ≡ Some w) × (w.node.id ≡ l.id)
      × OpensTo look trees top base (g.N.Own.txn l.fn.own) (g.N.Own.folder l.fn.own) nodes [] (g.N.Own.folder l.own) now front;
  leads : (look : RevisionBytes) (trees : ℕ → TreeFunction) (top base : ℕ) (nodes : Owns) (v : OwnNode) → AreKnown look top l.known → ShowTrees look top trees → base ≤ top → IsDraft look top base (g.N.Own.txn l.fn.own) (g.N.Own.folder l.fn.own) nodes → nodes [] ≡ Some v → v.node.id ≡ l.fn.root
      → LeadsDown look (g.N.Own.folder l.fn.own).nodes l.known l.path l.fn.root → LeadsDown look (g.N.Own.folder l.own).nodes l.known (map string_bytes (drop l.name-index l.name-items)) l.id;
  still : (look : RevisionBytes) (trees : ℕ → TreeFunction) (top base : ℕ) (nodes : Owns) (v : OwnNode) → AreKnown look top l.known → ShowTrees look top trees → base ≤ top → IsDraft look top base (g.N.Own.txn l.fn.own) (g.N.Own.folder l.fn.own) nodes → nodes [] ≡ Some v → v.node.id ≡ l.fn.root
      → (all : List Known) (path : Path) (at : NodeId) → LeadsDown look (g.N.Own.folder l.fn.own).nodes all path at → LeadsDown look (g.N.Own.folder l.own).nodes all path at;
}
