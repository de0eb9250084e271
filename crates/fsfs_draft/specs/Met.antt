-- What is met in a draft on the way down a path: an own node-revision, or one of a revision where nothing of the transaction's stands.
--
-- It is `draft_tree` with node-revisions in place of nodes. `nodes` gives what stands at each path of each revision.
use Rattle.std.specs.Prelude.{◌≤◌, ℕ, ◌++◌, [], ◌∷◌, Option, Some, None, if◌then◌else◌}
use Rattle.fsfs_base.specs.Paths.{PathName, Path}
use Rattle.fsfs_revision.specs.Told.{RevisionBytes}
use Rattle.fsfs_noderev.specs.declared.node_id.NodeId.{NodeId}
use Rattle.fsfs_noderev.specs.declared.node_rev.CopySource.{CopySource}
use Rattle.fsfs_noderev.specs.declared.node_rev.NodeRev.{NodeRev}
use Rattle.fsfs_draft.specs.Own.{OwnNode, Own, below, has_entry}
use Rattle.fsfs_draft.specs.OwnSides.{NodesAt, AreNodesOf}

abbrev pub nodes_from : (ℕ → NodesAt) → Option CopySource → Option NodeId → NodesAt → NodesAt
nodes_from nodes (Some from) before here p = nodes from.rev (from.path ++ p)
nodes_from nodes None (Some id) here p = here p
nodes_from nodes None None here p = None

abbrev pub nodes_under : (ℕ → NodesAt) → Option OwnNode → NodesAt → NodesAt
nodes_under nodes None here = here
nodes_under nodes (Some v) here = nodes_from nodes v.node.copy_from v.node.predecessor here

abbrev pub met_here : Option OwnNode → Option NodeRev → Option NodeRev
met_here None shared = shared
met_here (Some v) shared = Some v.node

abbrev pub met_in : Option OwnNode → PathName → Option NodeRev → Option NodeRev → Option NodeRev
met_in None name shared inner = shared
met_in (Some v) name shared inner = if has_entry v.entries name then inner else None

abbrev pub draft_nodes : (ℕ → NodesAt) → Own → NodesAt → NodesAt
draft_nodes nodes own shared [] = met_here (own []) (shared [])
draft_nodes nodes own shared (name ∷ p) = met_in (own []) name (shared (name ∷ p)) (draft_nodes nodes (below name own) (below name (nodes_under nodes (own []) shared)) p)

-- what stands at a path where nothing of the transaction's stands
abbrev pub nodes_at : (ℕ → NodesAt) → Path → Own → NodesAt → NodesAt
nodes_at nodes [] own shared = shared
nodes_at nodes (x ∷ p) own shared = nodes_at nodes p (below x own) (below x (nodes_under nodes (own []) shared))

-- `nodes` gives what stands in the revisions up to `top`
abbrev pub AreNodes : RevisionBytes → ℕ → (ℕ → NodesAt) → Type 0
AreNodes look top nodes = (r : ℕ) → r ≤ top → AreNodesOf look r (nodes r)
