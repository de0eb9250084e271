-- A tree, and the node-revisions of a revision that are shown as its nodes.
use Rattle.std.specs.Prelude.{◌≡◌, ◌≤◌, ◌++◌, ℕ, true, List, [], ◌∷◌, Some, None, Ok, Err}
use Rattle.fsfs_base.specs.Paths.{PathName, Path}
use Rattle.fsfs_tree.specs.Nodes.{Node, TreeFunction}
use Rattle.fsfs_base.specs.declared.kind.Kind.TheVariants.{Dir}
use Rattle.fsfs_revision.specs.Told.{RevisionBytes}
use Rattle.fsfs_noderev.specs.declared.node_rev.NodeRev.{NodeRev}
use Rattle.fsfs_revision.specs.Nodes.{is_of_revision}
use Rattle.fsfs_revision.specs.Shows.Reading.{DirEntry, named, EntriesOf, OfId, PropsOf}
use Rattle.fsfs_revision.specs.declared.wrong.Wrong.{Wrong}
use Rattle.fsfs_revision.specs.Shows.Chains.{own_rev}
use Rattle.fsfs_revision.specs.Shows.Shown.{IsTextOf}

-- the node-revision is shown as this node
pub record IsContentOf (look : RevisionBytes) (u : NodeRev) (n : Node) : Type 0 where
  pub kind : n.kind ≡ u.kind
  pub text : IsTextOf look u.kind u n.text
  pub properties : PropsOf look u (Ok n.properties)

-- what an entry of a directory names stands below it
pub record IsChildOf (look : RevisionBytes) (e : DirEntry) (u : NodeRev) : Type 0 where
  pub read : OfId look e.id (Ok u)
  pub id : u.id ≡ e.id
  pub kind : u.kind ≡ e.kind
  pub lasting : is_of_revision u ≡ true

-- `Stands` says which node-revisions stand where the tree has nodes
pub record Agrees (look : RevisionBytes) (top : ℕ) (Stands : Path → NodeRev → Type 0) (tree : TreeFunction) : Type 0 where
  pub shown : (q : Path) (u : NodeRev) → Stands q u → (n : Node) × (tree q ≡ Some n) × IsContentOf look u n
  pub read : (q : Path) (u : NodeRev) → Stands q u → OfId look u.id (Ok u)
  pub within : (q : Path) (u : NodeRev) → Stands q u → own_rev u ≤ top
  pub never : (q : Path) (u : NodeRev) (w : Wrong) → Stands q u → u.kind ≡ Dir → EntriesOf look u (Err w) → ⊥
  pub child : (q : Path) (u : NodeRev) (entries : List DirEntry) (name : PathName) (e : DirEntry) → Stands q u → u.kind ≡ Dir → EntriesOf look u (Ok entries) → named name entries ≡ Some e
      → (v : NodeRev) × Stands (q ++ name ∷ []) v × IsChildOf look e v
  pub lacks : (q : Path) (u : NodeRev) (entries : List DirEntry) (name : PathName) (rest : Path) → Stands q u → u.kind ≡ Dir → EntriesOf look u (Ok entries) → named name entries ≡ None → tree (q ++ name ∷ rest) ≡ None
