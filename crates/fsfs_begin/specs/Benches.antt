-- The bench of a transaction that begins: its first files.
use Rattle.std.specs.Prelude.{ℕ, List, [], Option, IfSome, codes}
use Rattle.std.specs.FinMap.{insert, empty}
use Rattle.fsfs_base.specs.Files.{Files}
use Rattle.fsfs_noderev.specs.declared.node_id.NodeId.{NodeId}
use Rattle.fsfs_noderev.specs.declared.node_rev.NodeRev.{NodeRev}
use Rattle.fsfs_txn_files.specs.FileNames.{file_name}
use Rattle.fsfs_txn_files.specs.declared.folder_file.FolderFile.TheVariants.{Node}
use Rattle.fsfs_txn_nodes.specs.TxnFolder.Folders.{TellsFolder}
use Rattle.fsfs_txn_nodes.specs.TxnFolder.Telling.{root_folder}

-- files with those that a transaction begins with: no properties, no numbers drawn, no items, no texts, and its root, of this id, with
-- this text
abbrev pub with_first_files : NodeId → List ℕ → Files → Files
with_first_files id root m = insert (insert (insert (insert (insert m (codes "props") (codes "END\n")) (codes "next-ids") (codes "0 0\n")) (codes "changes") []) (codes "rev") []) (file_name (Node id)) root

-- these and no others
abbrev pub first_files : NodeId → List ℕ → Files
first_files id root = with_first_files id root empty

-- the files of a bench tell a folder that has this root alone, whatever its prototype file has
abbrev pub TellsRoot : NodeRev → Option Files → Type 0
TellsRoot root held = (proto : List ℕ) → IfSome held (λ m. TellsFolder m (root_folder root proto))
