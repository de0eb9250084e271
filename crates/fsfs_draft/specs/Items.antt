-- A folder with an item more, and a file of it.
use Rattle.std.specs.Prelude.{◌≡◌, ◌++◌, [], ◌∷◌, Some}
use Rattle.fsfs_base.specs.Paths.{Path}
use Rattle.fsfs_noderev.specs.declared.node_id.NodeId.{NodeId}
use Rattle.fsfs_noderev.specs.declared.changes.item.ChangeItem.{ChangeItem}
use Rattle.fsfs_draft.specs.Drafts.{Kept, Folder}
use Rattle.fsfs_draft.specs.Steps.{kept_at}

-- the folder with an item more
abbrev pub with_item : Folder → ChangeItem → Folder
with_item f item = record f { items = f.items ++ item ∷ [] }

-- the id is that of a file of the folder, of a node-revision made at the path
pub record IsFileAt (f : Folder) (path : Path) (id : NodeId) : Type 0 where
  pub k : Kept
  pub here : kept_at f.nodes id ≡ Some k
  pub path_is : k.node.created_path ≡ path
