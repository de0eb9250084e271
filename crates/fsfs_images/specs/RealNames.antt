-- The names that the machine's files have in a repository.
use Rattle.std.specs.Prelude.{◌≡◌, ℕ, List, true, false}
use Rattle.fsfs_layout.specs.FileNames.{file_name, FitsFile}
use Rattle.fsfs_layout.specs.declared.layout.Layout.{Layout}
use Rattle.fsfs_layout.specs.declared.only_file.OnlyFile.TheVariants as only
use Rattle.fsfs_layout.specs.declared.repository_file.RepositoryFile.{RepositoryFile}
use Rattle.fsfs_layout.specs.declared.repository_file.RepositoryFile.TheVariants as real
use Rattle.fsfs_machine.specs.declared.contents.FileName.{FileName}
use Rattle.fsfs_machine.specs.declared.contents.FileName.TheVariants.{Current, CurrentNext, Counter, CounterNext, Floor, FloorNext, Rev, Props, Pack, Manifest}
use Rattle.fsfs_machine.specs.Disk.{same_name}

-- which file of a repository the machine means
abbrev pub machine_file : FileName → RepositoryFile
machine_file Current = real.Only only.Current
machine_file CurrentNext = real.Only only.CurrentNext
machine_file Counter = real.Only only.TxnCurrent
machine_file CounterNext = real.Only only.TxnCurrentNext
machine_file Floor = real.Only only.MinUnpackedRev
machine_file FloorNext = real.Only only.MinUnpackedRevNext
machine_file (Rev r) = real.Revision r
machine_file (Props r) = real.Props r
machine_file (Pack k) = real.Pack k
machine_file (Manifest k) = real.Manifest k

abbrev pub machine_name : Layout → FileName → List ℕ
machine_name layout n = file_name layout (machine_file n)

-- by these names the machine's files are told apart, as far as revisions and shards are within their limit
pub record AreMachineNames (layout : Layout) : Type 0 where
  pub same : (a b : FileName) → same_name a b ≡ true → machine_name layout a ≡ machine_name layout b
  pub apart : (a b : FileName) → FitsFile layout (machine_file a) → FitsFile layout (machine_file b) → same_name a b ≡ false → machine_name layout b ≡ machine_name layout a → ⊥
