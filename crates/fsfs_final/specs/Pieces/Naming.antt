-- What the lists and the changed paths of a revision name, where a path's id in the revision is known.
use Rattle.std.specs.Prelude.{◌++◌, [], ◌∷◌, Option, unwrap_or, if◌then◌else◌}
use Rattle.std.specs.BTreeMap.{BTreeMap, get_by}
use Rattle.fsfs_base.specs.Paths.{Path, path_cmp}
use Rattle.fsfs_base.specs.declared.action.Action.{Action}
use Rattle.fsfs_base.specs.declared.action.Action.TheVariants.{Add, Delete, Replace, Modify}
use Rattle.fsfs_noderev.specs.declared.changes.item.ChangeItem.{ChangeItem}
use Rattle.fsfs_noderev.specs.declared.node_id.NodeId.{NodeId}
use Rattle.fsfs_revision.specs.Nodes.{is_revision_id}
use Rattle.fsfs_revision.specs.Shows.Reading.{DirEntry}

-- the ids of paths
abbrev pub FinalIds : Type 0
FinalIds = Path → Option NodeId

abbrev pub ids_of : BTreeMap Path NodeId → FinalIds
ids_of ids p = get_by (path_cmp p) ids

-- what is of a revision keeps its id
abbrev pub final_id : FinalIds → Path → DirEntry → NodeId
final_id ids dir entry = if is_revision_id entry.id then entry.id else unwrap_or (ids (dir ++ entry.name ∷ [])) entry.id

abbrev pub final_entry : FinalIds → Path → DirEntry → DirEntry
final_entry ids dir entry = record entry { id = final_id ids dir entry }

-- a delete names what it took away, any other item what stands at its path
abbrev pub item_id : Action → FinalIds → ChangeItem → NodeId
item_id Delete ids item = item.id
item_id Add ids item = unwrap_or (ids item.path) item.id
item_id Replace ids item = unwrap_or (ids item.path) item.id
item_id Modify ids item = unwrap_or (ids item.path) item.id

abbrev pub final_item : FinalIds → ChangeItem → ChangeItem
final_item ids item = record item { id = item_id item.action ids item }
