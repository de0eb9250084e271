-- What the files tell after the changes of a step.
use Rattle.std.specs.Prelude.{◌≡◌, List, [], ◌∷◌, Option, Some, None}
use Rattle.fsfs_base.specs.Files.{Files}
use Rattle.fsfs_noderev.specs.declared.node_id.NodeId.{NodeId}
use Rattle.fsfs_noderev.specs.declared.node_rev.NodeRev.{NodeRev}
use Rattle.fsfs_layout.specs.declared.small_files.next_ids_file.NextIds.{NextIds as NextNumbers}
use Rattle.fsfs_noderev.specs.declared.changes.item.ChangeItem.{ChangeItem}
use Rattle.fsfs_revision.specs.Shows.Reading.{Pairs, DirEntry}
use Rattle.fsfs_draft.specs.Drafts.{Kept, Folder}
use Rattle.fsfs_draft.specs.Steps.{kept_at}
use Rattle.fsfs_draft.specs.Items.{with_item}
use Rattle.fsfs_draft.specs.Views.{new_kept}
use Rattle.fsfs_txn_files.specs.Texts.{IsNodeFile}
use Rattle.fsfs_txn_files.specs.Children.{IsWholeList}
use Rattle.fsfs_txn_files.specs.Changes.{changed_all, IsChange}
use Rattle.fsfs_txn_files.specs.declared.change.FileChange.{FileChange}
use Rattle.fsfs_txn_files.specs.declared.change.How.TheVariants.{Whole}
use Rattle.fsfs_txn_files.specs.declared.folder_file.FolderFile.TheVariants.{Node, Children}
use Rattle.fsfs_txn_nodes.specs.TxnFolder.Folders.{TellsFolder}
use Rattle.fsfs_txn_nodes.specs.TxnFolder.Telling.{put_kept}

-- the folder with a new node-revision
abbrev pub TellsNew : NodeRev → List FileChange → Type 0
TellsNew node files = (m : Files) (f : Folder) → TellsFolder m f → TellsFolder (changed_all files m) (put_kept f node.id (new_kept node))

-- a directory's list goes first, where it has none of its own
abbrev pub IsListFirst : NodeId → (own : Option (List DirEntry)) → List DirEntry → List FileChange → Type 0
IsListFirst id None entries files = (c : FileChange) × IsChange c (Children id) Whole (IsWholeList entries) × (files ≡ c ∷ [])
IsListFirst id (Some own) entries files = files ≡ []

-- a node-revision's file goes last, where it is another than it was
pub data IsNodeLast (id : NodeId) (old node : NodeRev) (files : List FileChange) : Type 0 where
  Same : node ≡ old → files ≡ [] → IsNodeLast id old node files
  Other : (c : FileChange) → (node ≡ old → ⊥) → IsChange c (Node id) Whole (IsNodeFile node) → files ≡ c ∷ [] → IsNodeLast id old node files

-- where there is a list of its own, the entries are those
abbrev pub AreThose : Option (List DirEntry) → List DirEntry → Type 0
AreThose own entries = (es : List DirEntry) → own ≡ Some es → entries ≡ es

-- the folder with a directory whose entries are new in such a way
abbrev pub TellsEntry : NodeId → Kept → List DirEntry → NodeRev → (List DirEntry → List DirEntry → Type 0) → List FileChange → Type 0
TellsEntry id k entries node IsNew files = (m : Files) (f : Folder) (new : List DirEntry) → TellsFolder m f → kept_at f.nodes id ≡ Some k → AreThose k.entries entries → IsNew entries new
    → TellsFolder (changed_all files m) (put_kept f id (record { node = node; entries = Some new; props = k.props }))

-- and with a new node-revision that it names
abbrev pub TellsChild : NodeId → Kept → List DirEntry → NodeRev → NodeRev → (List DirEntry → List DirEntry → Type 0) → List FileChange → Type 0
TellsChild id k entries node child IsNew files = (m : Files) (f : Folder) (new : List DirEntry) → TellsFolder m f → kept_at f.nodes id ≡ Some k → kept_at f.nodes child.id ≡ None → AreThose k.entries entries → IsNew entries new
    → TellsFolder (changed_all files m) (put_kept (put_kept f child.id (new_kept child)) id (record { node = node; entries = Some new; props = k.props }))

-- with a directory that has these entries
abbrev pub TellsMerged : NodeId → List DirEntry → NodeRev → List FileChange → Type 0
TellsMerged id entries node files = (m : Files) (f : Folder) (k : Kept) → TellsFolder m f → kept_at f.nodes id ≡ Some k
    → TellsFolder (changed_all files m) (put_kept f id (record { node = node; entries = Some entries; props = k.props }))

-- with this node-revision in place of the other
abbrev pub TellsText : NodeId → NodeRev → List FileChange → Type 0
TellsText id node files = (m : Files) (f : Folder) (k : Kept) → TellsFolder m f → kept_at f.nodes id ≡ Some k → TellsFolder (changed_all files m) (put_kept f id (record k { node = node }))

-- and with these properties
abbrev pub TellsPropsSet : NodeId → NodeRev → Pairs → List FileChange → Type 0
TellsPropsSet id node pairs files = (m : Files) (f : Folder) (k : Kept) → TellsFolder m f → kept_at f.nodes id ≡ Some k → TellsFolder (changed_all files m) (put_kept f id (record k { node = node; props = Some pairs }))

-- with these numbers
abbrev pub with_next : NextNumbers → Folder → Folder
with_next next f = record f { next_node = next.node.number; next_copy = next.copy.number }

abbrev pub TellsNext : NextNumbers → List FileChange → Type 0
TellsNext next files = (m : Files) (f : Folder) → TellsFolder m f → TellsFolder (changed_all files m) (with_next next f)

-- and with an item more
abbrev pub TellsSettled : NextNumbers → ChangeItem → List FileChange → Type 0
TellsSettled next item files = (m : Files) (f : Folder) → TellsFolder m f → TellsFolder (changed_all files m) (with_item (with_next next f) item)
