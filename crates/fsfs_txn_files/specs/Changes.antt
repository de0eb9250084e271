-- What a bench has after texts were written into its files.
use Rattle.std.specs.Prelude.{◌≡◌, ℕ, List, [], ◌∷◌, ◌++◌, Option, option_map}
use Rattle.fsfs_base.specs.Files.{Files}
use Rattle.fsfs_disk.specs.Benches.{appended, written, Spoils}
use Rattle.fsfs_txn_files.specs.FileNames.{file_name}
use Rattle.fsfs_txn_files.specs.declared.folder_file.FolderFile.{FolderFile}
use Rattle.fsfs_txn_files.specs.declared.change.How.{How}
use Rattle.fsfs_txn_files.specs.declared.change.How.TheVariants.{Whole, AtEnd}
use Rattle.fsfs_txn_files.specs.declared.change.FileChange.{FileChange}
use Rattle.fsfs_txn_files.specs.declared.write_error.FileFault.{FileFault}

-- ---- changes

-- the files with this text in place of the file's, or behind it, and all others as they were
abbrev pub with_text : How → List ℕ → List ℕ → Files → Files
with_text Whole name text m = written name text m
with_text AtEnd name text m = appended name text m

abbrev pub changed : FileChange → Files → Files
changed c m = with_text c.how (file_name c.file) c.text.items m

abbrev pub changed_all : List FileChange → Files → Files
changed_all [] m = m
changed_all (c ∷ cs) m = changed_all cs (changed c m)

-- a text of this form goes into this file
pub record IsChange (c : FileChange) (file : FolderFile) (how : How) (Form : List ℕ → Type 0) : Type 0 where
  pub file_is : c.file ≡ file
  pub how_is : c.how ≡ how
  pub text_is : Form c.text.items

-- ---- a bench that fails

-- the fault is at this file, which has any bytes, or none; all others are as they were
abbrev pub IsStoppedAt : FolderFile → Option Files → Option Files → FileFault → Type 0
IsStoppedAt file old new fault = (fault.file ≡ file) × Spoils (file_name file) old new

-- the first of the changes were made, and at the next one the bench failed
pub record IsStopped (changes : List FileChange) (old new : Option Files) (fault : FileFault) : Type 0 where
  pub made : List FileChange
  pub next : FileChange
  pub rest : List FileChange
  pub all : changes ≡ made ++ next ∷ rest
  pub at : IsStoppedAt next.file (option_map (changed_all made) old) new fault
