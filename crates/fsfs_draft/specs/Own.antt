-- A transaction's own node-revisions, by their paths, and the tree that they show.
--
-- A directory becomes the transaction's own, or is copied, without what is below it: there stands what stood there before, until it
-- is touched. So what is shown at a path is an own node-revision's, or that of the tree which the nearest own one above goes on from.
-- (The libsvn_fs_fs structure file, "Transaction layout".)
use Rattle.std.specs.Prelude.{ℕ, Bool, true, false, ◌&&◌, List, [], ◌∷◌, ◌++◌, Option, Some, None, is_some, if◌then◌else◌}
use Rattle.fsfs_base.specs.Paths.{PathName, Path, same_name}
use Rattle.fsfs_tree.specs.Nodes.{Node, TreeFunction}
use Rattle.fsfs_model.specs.Flat.Edits.{copied_node}
use Rattle.fsfs_noderev.specs.declared.node_id.NodeId.{NodeId}
use Rattle.fsfs_noderev.specs.declared.rep.Contents.TheVariants as contents
use Rattle.fsfs_noderev.specs.declared.node_rev.CopySource.{CopySource}
use Rattle.fsfs_noderev.specs.declared.node_rev.NodeRev.{NodeRev}
use Rattle.fsfs_revision.specs.Shows.Reading.{DirEntry, named}

-- an own node-revision, with what its other files hold
pub record OwnNode : Type 0 where
  pub node : NodeRev
  -- the entries of its `children` file; none: it has no such file
  pub entries : Option (List DirEntry)
  -- the pairs of its `props` file
  pub props : Option (List (List ℕ × List ℕ))
  -- the node that it is shown as
  pub shown : Node

-- the own node-revisions of a transaction, at the paths where they stand
abbrev pub Own : Type 0
Own = Path → Option OwnNode

-- what a function of paths says below a name
abbrev pub below : {X : Type 0} → PathName → (Path → X) → Path → X
below name f p = f (name ∷ p)

-- what stands below a node-revision where nothing of the transaction's stands: a copy goes on from its source, what goes on from a
-- predecessor from what stood there, and a new node from nothing
abbrev pub shared_from : (ℕ → TreeFunction) → Option CopySource → Option NodeId → TreeFunction → TreeFunction
shared_from trees (Some from) before here p = copied_node from.rev (from.path ++ p) (trees from.rev (from.path ++ p))
shared_from trees None (Some id) here p = here p
shared_from trees None None here p = None

abbrev pub shared_under : (ℕ → TreeFunction) → Option OwnNode → TreeFunction → TreeFunction
shared_under trees None here = here
shared_under trees (Some v) here = shared_from trees v.node.copy_from v.node.predecessor here

-- the directory has something of this name: without a `children` file it has what it goes on from
abbrev pub has_entry : Option (List DirEntry) → PathName → Bool
has_entry None name = true
has_entry (Some entries) name = is_some (named name entries)

abbrev pub node_here : Option OwnNode → Option Node → Option Node
node_here None shared = shared
node_here (Some v) shared = Some v.shown

abbrev pub in_own : Option OwnNode → PathName → Option Node → Option Node → Option Node
in_own None name shared inner = shared
in_own (Some v) name shared inner = if has_entry v.entries name then inner else None

-- the tree that own node-revisions show, over the trees of the revisions; `shared` is what stands where nothing of the transaction's
-- stands
abbrev pub draft_tree : (ℕ → TreeFunction) → Own → TreeFunction → TreeFunction
draft_tree trees own shared [] = node_here (own []) (shared [])
draft_tree trees own shared (name ∷ p) = in_own (own []) name (shared (name ∷ p)) (draft_tree trees (below name own) (below name (shared_under trees (own []) shared)) p)

-- ---- changes

-- everything at and below a path replaced
abbrev pub graft : Path → Own → Own → Own
graft [] new own q = new q
graft (x ∷ p) new own [] = own []
graft (x ∷ p) new own (y ∷ q) = if same_name x y then graft p new (below y own) q else own (y ∷ q)

-- what is at and below a path
abbrev pub under : Path → Own → Own
under [] own = own
under (x ∷ p) own = under p (below x own)

-- one own node-revision, and nothing of the transaction's below it
abbrev pub alone : OwnNode → Own
alone v [] = Some v
alone v (y ∷ q) = None

abbrev pub nothing : Own
nothing q = None

-- a directory, with something else at and below one name
abbrev pub with_child : OwnNode → PathName → Own → Own → Own
with_child dir x child old [] = Some dir
with_child dir x child old (y ∷ q) = if same_name x y then child q else old (y ∷ q)

-- an own node-revision changed
abbrev pub with_node : OwnNode → Own → Own
with_node v old [] = Some v
with_node v old (y ∷ q) = old (y ∷ q)

-- each node-revision from the root down to the path is the transaction's own, and each but the last has the entry of the next
abbrev pub lives_in : Option OwnNode → PathName → Bool → Bool
lives_in None name inner = false
lives_in (Some v) name inner = has_entry v.entries name && inner

abbrev pub lives : Path → Own → Bool
lives [] own = is_some (own [])
lives (x ∷ p) own = lives_in (own []) x (lives p (below x own))

-- what stands at a path where nothing of the transaction's stands
abbrev pub shared_at : (ℕ → TreeFunction) → Path → Own → TreeFunction → TreeFunction
shared_at trees [] own shared = shared
shared_at trees (x ∷ p) own shared = shared_at trees p (below x own) (below x (shared_under trees (own []) shared))

-- the names of a path after those of another
abbrev pub behind : Path → Path → Path
behind [] q = q
behind (x ∷ p) [] = []
behind (x ∷ p) (y ∷ q) = behind p q

-- a directory whose entries stand in a `children` file of its own from now on
abbrev pub opened : OwnNode → List DirEntry → OwnNode
opened d entries = record d { node = record d.node { text = Some contents.Own; is_fresh_txn_root = false }; entries = Some entries }
