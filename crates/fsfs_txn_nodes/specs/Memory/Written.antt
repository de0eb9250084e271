-- What a transaction's bench has of the node-revisions that are held in memory.
use Rattle.std.specs.Prelude.{◌≡◌, ℕ, List, [], Option, Some, None, IfSome, codes}
use Rattle.std.proofs.Common.{ap}
use Rattle.std.proofs.Math.Logic.{∥∥₁_map}
use Rattle.fsfs_base.specs.Files.{Files as BenchFiles}
use Rattle.fsfs_layout.specs.declared.small_files.next_ids_file.NextIds.{NextIds}
use Rattle.fsfs_noderev.specs.declared.changes.item.ChangeItem.{ChangeItem}
use Rattle.fsfs_draft.specs.Drafts.{Folder}
use Rattle.fsfs_draft.specs.Steps.{Files}
use Rattle.fsfs_disk.specs.Benches.{bytes_on}
use Rattle.fsfs_txn_files.specs.Changes.{changed_all}
use Rattle.fsfs_txn_files.specs.declared.change.FileChange.{FileChange}
use Rattle.fsfs_txn_nodes.specs.TxnFolder.Folders.{TellsFolder}
use Rattle.fsfs_txn_nodes.specs.Memory.Views.{folder_of}

-- the folder without its prototype file
abbrev pub filed : Files → NextIds → List ChangeItem → Folder
filed nodes next items = folder_of nodes next items None []

-- as long as the bench has not failed, where it tells its files they tell the folder
abbrev pub HasTold : ℕ → Option BenchFiles → Folder → Type 0
HasTold faults bench f = faults ≡ 0 → IfSome bench (λ m. TellsFolder m f)

-- the bench's files are those of the folder, and its prototype revision file is its file `rev`
pub record HasFiles (faults : ℕ) (bench : Option BenchFiles) (f : Folder) : Type 0 where
  pub told : ∥ HasTold faults bench f ∥₁
  pub texts : f.proto ≡ bytes_on bench (codes "rev")

pub files_told : (faults : ℕ) (bench : Option BenchFiles) (nodes : Files) (next : NextIds) (items : List ChangeItem) (proto : List ℕ) → proto ≡ codes "rev" → ∥ HasTold faults bench (filed nodes next items) ∥₁ → HasFiles faults bench (folder_of nodes next items bench proto)
files_told faults bench nodes next items proto named told = record {
  told = ∥∥₁_map told (λ t none. by bench (t none));
  texts = ap (λ (name : List ℕ). bytes_on bench name) named;
}
  where
    by : (o : Option BenchFiles) → IfSome o (λ m. TellsFolder m (filed nodes next items)) → IfSome o (λ m. TellsFolder m (folder_of nodes next items bench proto))
    by None t = tt
    by (Some m) t = record { each = t.each; next = t.next; changes = t.changes }

-- files that tell the one folder tell the other after the changes
abbrev pub LeadTo : List FileChange → Folder → Folder → Type 0
LeadTo changes before after = (m : BenchFiles) → TellsFolder m before → TellsFolder (changed_all changes m) after
