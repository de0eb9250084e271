-- The draft of a transaction that has just begun: the base, with a root of its own.
use Rattle.std.specs.Prelude.{◌≡◌, ◌≤◌, ℕ, false, [], ◌∷◌, ◌+◌, ◌-◌, ◌^◌, min, Some}
use Rattle.fsfs_tree.specs.Nodes.{TreeFunction}
use Rattle.fsfs_revision.specs.Told.{RevisionBytes}
use Rattle.fsfs_noderev.specs.declared.node_rev.NodeRev.{NodeRev}
use Rattle.fsfs_revision.specs.Shows.Reading.{StandsAt}
use Rattle.fsfs_revision.specs.Shows.Chains.{copy_root_of}
use Rattle.fsfs_revision.specs.Ancestry.Trees.{ShowTrees}
use Rattle.fsfs_draft.specs.OwnSides.{NodesAt, IsSuccessor, IsOwnSide, AreNodesOf}
use Rattle.fsfs_draft.specs.NodeDrafts.{draft_root, IsDraft}
use Rattle.fsfs_draft.specs.Draws.{DrawsTree}

-- v is the root of a new transaction on a revision whose root is x
pub record IsFirstRoot (top : ℕ) (x v : NodeRev) : Type 0 where
  pub next : IsSuccessor x v false
  pub copy : v.id.copy ≡ x.id.copy
  pub count : v.count ≡ min (x.count + 1) (2 ^ 64 - 1)
  pub copy_root : (n : ℕ) → draft_root n v ≡ copy_root_of x

abbrev pub begun : NodesAt → NodeRev → NodesAt
begun base v [] = Some v
begun base v (x ∷ p) = base (x ∷ p)

-- such a draft keeps all of it: so the conditions can be met
pub record BegunIsADraft : Type 0 where
  pub side : (look : RevisionBytes) (top : ℕ) (tree : ℕ → TreeFunction) (b : ℕ) (base : NodesAt) (x v : NodeRev)
      → ShowTrees look top tree → b ≤ top → AreNodesOf look b base → StandsAt look b [] x → IsFirstRoot top x v → IsOwnSide base [] (begun base v)
  pub draft : (look : RevisionBytes) (top : ℕ) (tree : ℕ → TreeFunction) (b : ℕ) (base : NodesAt) (x v : NodeRev)
      → ShowTrees look top tree → b ≤ top → AreNodesOf look b base → StandsAt look b [] x → IsFirstRoot top x v → IsDraft look top b (begun base v)
  pub draws : (look : RevisionBytes) (top : ℕ) (tree : ℕ → TreeFunction) (b n : ℕ) (base : NodesAt) (x v : NodeRev)
      → ShowTrees look top tree → b ≤ top → AreNodesOf look b base → StandsAt look b [] x → IsFirstRoot top x v → DrawsTree n (tree b) (tree b) [] (begun base v)
