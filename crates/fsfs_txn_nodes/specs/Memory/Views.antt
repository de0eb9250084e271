-- What a transaction that holds its node-revisions in memory stands for.
use Rattle.std.specs.Prelude.{ℕ, List, [], Option, None}
use Rattle.fsfs_base.specs.Files.{Files as BenchFiles}
use Rattle.fsfs_disk.specs.Benches.{bytes_on}
use Rattle.fsfs_noderev.specs.declared.node_rev.NodeRev.{NodeRev}
use Rattle.fsfs_noderev.specs.declared.changes.item.ChangeItem.{ChangeItem}
use Rattle.fsfs_draft.specs.Drafts.{Folder}
use Rattle.fsfs_draft.specs.Steps.{Files, with_kept}
use Rattle.fsfs_draft.specs.Views.{new_kept}
use Rattle.fsfs_layout.specs.declared.small_files.next_ids_file.NextIds.{NextIds}

-- the folder of these node-revisions, with the bytes that the bench tells of its prototype file
abbrev pub folder_of : Files → NextIds → List ChangeItem → Option BenchFiles → List ℕ → Folder
folder_of nodes next items bench proto = record { nodes = nodes; next_node = next.node.number; next_copy = next.copy.number; items = items; proto = bytes_on bench proto }

-- a transaction that has just begun: its root alone
abbrev pub begun_folder : NodeRev → Option BenchFiles → List ℕ → Folder
begun_folder root bench proto = record { nodes = with_kept root.id (new_kept root) (λ node copy. None); next_node = 0; next_copy = 0; items = []; proto = bytes_on bench proto }
