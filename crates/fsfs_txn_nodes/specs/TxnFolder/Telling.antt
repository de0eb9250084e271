-- Which changes of files go with which steps.
use Rattle.std.specs.Prelude.{◌≡◌, ℕ, List, [], ◌∷◌, Some, None, codes}
use Rattle.std.specs.FinMap.{get}
use Rattle.fsfs_base.specs.Files.{Files}
use Rattle.fsfs_base.specs.Paths.{PathName}
use Rattle.fsfs_base.specs.declared.kind.Kind.{Kind}
use Rattle.fsfs_noderev.specs.Ids.{Old, part_value}
use Rattle.fsfs_noderev.specs.declared.node_id.NodeId.{NodeId}
use Rattle.fsfs_noderev.specs.declared.node_rev.NodeRev.{NodeRev}
use Rattle.fsfs_layout.specs.Small.{IsNextIds}
use Rattle.fsfs_noderev.specs.Changes.Items.{IsItem}
use Rattle.fsfs_noderev.specs.declared.changes.item.ChangeItem.{ChangeItem}
use Rattle.fsfs_revision.specs.Shows.Reading.{Pairs, DirEntry}
use Rattle.fsfs_draft.specs.Drafts.{Kept, Folder}
use Rattle.fsfs_draft.specs.Steps.{with_kept, kept_at}
use Rattle.fsfs_draft.specs.Items.{with_item}
use Rattle.fsfs_draft.specs.Views.{new_kept}
use Rattle.fsfs_txn_files.specs.FileNames.{FitsId, file_name}
use Rattle.fsfs_txn_files.specs.Texts.{IsNodeFile, ArePropsOf}
use Rattle.fsfs_txn_files.specs.Children.{IsWholeList, IsPutRecord, IsTakenRecord}
use Rattle.fsfs_txn_files.specs.Changes.{changed, changed_all, IsChange}
use Rattle.fsfs_txn_files.specs.declared.change.FileChange.{FileChange}
use Rattle.fsfs_txn_files.specs.declared.change.How.TheVariants.{Whole, AtEnd}
use Rattle.fsfs_txn_files.specs.declared.folder_file.FolderFile.TheVariants.{NextIds, Changes, Node, Children, Props}
use Rattle.fsfs_txn_nodes.specs.TxnFolder.Folders.{TellsFolder}
use Rattle.fsfs_dag.specs.Entries.{HasPut, HasTaken}

abbrev pub FitsNode : NodeId → Type 0
FitsNode id = FitsId (part_value id.node) (part_value id.copy)

-- what goes into the files of a node-revision
abbrev pub IsNodeChange : FileChange → NodeId → Kept → Type 0
IsNodeChange c id k = IsChange c (Node id) Whole (IsNodeFile k.node)

-- a record at the end of a directory's `children` file: an entry is put, or taken
pub data IsRecord (c : FileChange) (dir : NodeId) (old new : List DirEntry) : Type 0 where
  Put : (name : PathName) (kind : Kind) (id : NodeId) → IsChange c (Children dir) AtEnd (IsPutRecord name kind id) → HasPut old name kind id new → IsRecord c dir old new
  Taken : (name : PathName) → IsChange c (Children dir) AtEnd (IsTakenRecord name) → HasTaken old name new → IsRecord c dir old new

-- the folder with these files of the node-revision of an id
abbrev pub put_kept : Folder → NodeId → Kept → Folder
put_kept f id k = record f { nodes = with_kept id k f.nodes }

-- a folder that has its root alone
abbrev pub root_folder : NodeRev → List ℕ → Folder
root_folder root proto = record { nodes = with_kept root.id (new_kept root) (λ node copy. None); next_node = 0; next_copy = 0; items = []; proto = proto }

pub record ChangesTell : Type 0 where
  -- the first files of a transaction
  pub begun : (m : Files) (root : NodeRev) (text proto : List ℕ) → FitsNode root.id → IsNodeFile root text
      → get m (file_name (Node root.id)) ≡ Some text → get m (codes "next-ids") ≡ Some (codes "0 0\n") → get m (codes "changes") ≡ Some [] → TellsFolder m (root_folder root proto)
  -- where the root has node and copy part 0, as a draft's has
  pub first : (id : NodeId) → part_value id.node ≡ Old 0 → part_value id.copy ≡ Old 0 → file_name (Node id) ≡ codes "node.0.0"
  -- a new node-revision, without lists of its own
  pub new : (m : Files) (f : Folder) (id : NodeId) (k : Kept) (c : FileChange) → TellsFolder m f → FitsNode id → k.entries ≡ None → k.props ≡ None → IsNodeChange c id k → TellsFolder (changed c m) (put_kept f id k)
  -- the first entry that is put or taken of a directory whose entries were not listed in its own file
  pub opened : (m : Files) (f : Folder) (id : NodeId) (k now : Kept) (old new : List DirEntry) (list one node : FileChange) → TellsFolder m f → kept_at f.nodes id ≡ Some k
      → IsChange list (Children id) Whole (IsWholeList old) → IsRecord one id old new → IsNodeChange node id now → now.entries ≡ Some new → now.props ≡ k.props → TellsFolder (changed_all (list ∷ one ∷ node ∷ []) m) (put_kept f id now)
  -- a further one: only the record, and the node-revision
  pub further : (m : Files) (f : Folder) (id : NodeId) (k now : Kept) (old new : List DirEntry) (one node : FileChange) → TellsFolder m f → kept_at f.nodes id ≡ Some k → k.entries ≡ Some old
      → IsRecord one id old new → IsNodeChange node id now → now.entries ≡ Some new → now.props ≡ k.props → TellsFolder (changed_all (one ∷ node ∷ []) m) (put_kept f id now)
  -- both, where the node-revision is as it was: its file is left
  pub opened_only : (m : Files) (f : Folder) (id : NodeId) (k now : Kept) (old new : List DirEntry) (list one : FileChange) → TellsFolder m f → kept_at f.nodes id ≡ Some k
      → IsChange list (Children id) Whole (IsWholeList old) → IsRecord one id old new → now.node ≡ k.node → now.entries ≡ Some new → now.props ≡ k.props → TellsFolder (changed_all (list ∷ one ∷ []) m) (put_kept f id now)
  pub further_only : (m : Files) (f : Folder) (id : NodeId) (k now : Kept) (old new : List DirEntry) (one : FileChange) → TellsFolder m f → kept_at f.nodes id ≡ Some k → k.entries ≡ Some old
      → IsRecord one id old new → now.node ≡ k.node → now.entries ≡ Some new → now.props ≡ k.props → TellsFolder (changed one m) (put_kept f id now)
  -- the entries of a merged directory
  pub merged : (m : Files) (f : Folder) (id : NodeId) (k now : Kept) (entries : List DirEntry) (list node : FileChange) → TellsFolder m f → kept_at f.nodes id ≡ Some k
      → IsChange list (Children id) Whole (IsWholeList entries) → IsNodeChange node id now → now.entries ≡ Some entries → now.props ≡ k.props → TellsFolder (changed_all (list ∷ node ∷ []) m) (put_kept f id now)
  -- another text
  pub text : (m : Files) (f : Folder) (id : NodeId) (k now : Kept) (node : FileChange) → TellsFolder m f → kept_at f.nodes id ≡ Some k → IsNodeChange node id now → now.entries ≡ k.entries → now.props ≡ k.props
      → TellsFolder (changed node m) (put_kept f id now)
  -- other properties
  pub properties : (m : Files) (f : Folder) (id : NodeId) (k now : Kept) (pairs : Pairs) (list node : FileChange) → TellsFolder m f → kept_at f.nodes id ≡ Some k
      → IsChange list (Props id) Whole (ArePropsOf pairs) → IsNodeChange node id now → now.entries ≡ k.entries → now.props ≡ Some pairs → TellsFolder (changed_all (list ∷ node ∷ []) m) (put_kept f id now)
  -- numbers that were drawn
  pub drawn : (m : Files) (f : Folder) (node copy : ℕ) (c : FileChange) → TellsFolder m f → IsChange c NextIds Whole (λ text. IsNextIds text (node, copy)) → TellsFolder (changed c m) (record f { next_node = node; next_copy = copy })
  -- one item more
  pub item : (m : Files) (f : Folder) (it : ChangeItem) (c : FileChange) → TellsFolder m f → IsChange c Changes AtEnd (λ text. IsItem text it) → TellsFolder (changed c m) (with_item f it)
