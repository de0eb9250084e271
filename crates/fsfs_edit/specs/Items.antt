-- The items of the `changes` file that edits leave.
use Rattle.std.specs.Prelude.{◌≡◌, ◌++◌, Bool, false, List, [], ◌∷◌, Option, Some, None}
use Rattle.fsfs_base.specs.Paths.{Path}
use Rattle.fsfs_base.specs.declared.kind.Kind.{Kind}
use Rattle.fsfs_base.specs.declared.action.Action.TheVariants as actions
use Rattle.fsfs_noderev.specs.declared.node_id.NodeId.{NodeId}
use Rattle.fsfs_noderev.specs.declared.node_rev.CopySource.{CopySource}
use Rattle.fsfs_noderev.specs.declared.changes.item.ChangeItem.{ChangeItem}
use Rattle.fsfs_draft.specs.Drafts.{Folder}
use Rattle.fsfs_draft.specs.Items.{IsFileAt}

-- the item of a node that was put at the path
pub record IsAddOf (item : ChangeItem) (id : NodeId) (kind : Kind) (path : Path) (source : Option CopySource) : Type 0 where
  pub id_is : item.id ≡ id
  pub action : item.action ≡ actions.Add
  pub kind_is : item.kind ≡ Some kind
  pub text : item.text_changed ≡ false
  pub props : item.props_changed ≡ false
  pub path_is : item.path ≡ path
  pub source_is : item.source ≡ source

-- the item of a node that was taken away from the path
pub record IsDeleteOf (item : ChangeItem) (id : NodeId) (kind : Kind) (path : Path) : Type 0 where
  pub id_is : item.id ≡ id
  pub action : item.action ≡ actions.Delete
  pub kind_is : item.kind ≡ Some kind
  pub text : item.text_changed ≡ false
  pub props : item.props_changed ≡ false
  pub path_is : item.path ≡ path
  pub source_is : item.source ≡ None

-- the last item says that a node was put at the path, and names its file
pub record AddsItem (f : Folder) (kind : Kind) (path : Path) (source : Option CopySource) : Type 0 where
  pub front : List ChangeItem
  pub item : ChangeItem
  pub items : f.items ≡ front ++ item ∷ []
  pub is : IsAddOf item item.id kind path source
  pub file : IsFileAt f path item.id

-- the item of a node whose text or properties were set
pub record IsModifyOf (item : ChangeItem) (id : NodeId) (kind : Kind) (path : Path) (text props : Bool) : Type 0 where
  pub id_is : item.id ≡ id
  pub action : item.action ≡ actions.Modify
  pub kind_is : item.kind ≡ Some kind
  pub text_is : item.text_changed ≡ text
  pub props_is : item.props_changed ≡ props
  pub path_is : item.path ≡ path
  pub source_is : item.source ≡ None

-- the last item says that the node at the path was changed, and names its file
pub record ModifiesItem (f : Folder) (kind : Kind) (path : Path) (text props : Bool) : Type 0 where
  pub front : List ChangeItem
  pub item : ChangeItem
  pub items : f.items ≡ front ++ item ∷ []
  pub is : IsModifyOf item item.id kind path text props
  pub file : IsFileAt f path item.id
