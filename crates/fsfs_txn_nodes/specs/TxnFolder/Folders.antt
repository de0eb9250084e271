-- Files that tell what a transaction's folder holds.
use Rattle.std.specs.Prelude.{◌≡◌, ℕ, List, Option, Some, None, codes}
use Rattle.std.specs.FinMap.{get}
use Rattle.fsfs_base.specs.Files.{Files}
use Rattle.fsfs_noderev.specs.Ids.{PartValue}
use Rattle.fsfs_layout.specs.Small.{IsNextIds}
use Rattle.fsfs_noderev.specs.Changes.Texts.{AreChanges}
use Rattle.fsfs_revision.specs.Shows.Reading.{Pairs, DirEntry}
use Rattle.fsfs_draft.specs.Drafts.{Kept, Folder}
use Rattle.fsfs_txn_files.specs.FileNames.{node_name, children_name, props_name, FitsId}
use Rattle.fsfs_txn_files.specs.Texts.{IsNodeFile, ArePropsOf}
use Rattle.fsfs_txn_files.specs.Children.{Tells}

-- there is such a file, and its bytes have this form
abbrev pub HasFile : Files → List ℕ → (List ℕ → Type 0) → Type 0
HasFile m name Form = (bytes : List ℕ) × (get m name ≡ Some bytes) × Form bytes

abbrev pub TellsEntries : Files → List ℕ → Option (List DirEntry) → Type 0
TellsEntries m name None = Unit {0}
TellsEntries m name (Some entries) = HasFile m name (λ bytes. Tells bytes entries)

abbrev pub TellsProps : Files → List ℕ → Option Pairs → Type 0
TellsProps m name None = Unit {0}
TellsProps m name (Some pairs) = HasFile m name (ArePropsOf pairs)

-- the files of one node-revision
pub record TellsKept (m : Files) (node copy : PartValue) (k : Kept) : Type 0 where
  pub itself : HasFile m (node_name node copy) (IsNodeFile k.node)
  pub children : TellsEntries m (children_name node copy) k.entries
  pub properties : TellsProps m (props_name node copy) k.props

-- all files of the folder but the prototype file
pub record TellsFolder (m : Files) (f : Folder) : Type 0 where
  pub each : (node copy : PartValue) (k : Kept) → f.nodes node copy ≡ Some k → FitsId node copy × TellsKept m node copy k
  pub next : HasFile m (codes "next-ids") (λ bytes. IsNextIds bytes (f.next_node, f.next_copy))
  pub changes : HasFile m (codes "changes") (λ bytes. AreChanges bytes f.items)
