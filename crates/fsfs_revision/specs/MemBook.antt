-- What a book in memory tells.
use Rattle.std.specs.Prelude.{ℕ, ◌-◌, List, length, slice_get, Option, Some, None, Result, Ok, Err}
use Rattle.fsfs_revision.specs.declared.wrong.Refusal.{Refusal}
use Rattle.fsfs_revision.specs.declared.wrong.Refusal.TheVariants.{NoRev, Missing, Small}
use Rattle.fsfs_revision.specs.declared.mem_book.MemFile.{MemFile}
use Rattle.fsfs_revision.specs.declared.mem_book.MemFile.TheVariants.{Bytes, Absent, Damaged}
use Rattle.fsfs_revision.specs.declared.mem_book.MemRev.{MemRev}
use Rattle.fsfs_revision.specs.Told.{RevisionBytes, Telling}

-- what is read where a file of a revision is kept
abbrev pub read_of : ℕ → MemFile → Result (List ℕ) Refusal
read_of rev (Bytes bytes) = Ok bytes.items
read_of rev Absent = Err (Missing rev)
read_of rev (Damaged fault) = Err (Small fault)

-- what is read of a revision by the file that is looked at; above the last revision there is none
abbrev pub found_by : (MemRev → MemFile) → ℕ → ℕ → Option MemRev → Result (List ℕ) Refusal
found_by file rev count None = Err (NoRev rev (count - 1))
found_by file rev count (Some found) = read_of rev (file found)

abbrev pub bytes_in : List MemRev → RevisionBytes
bytes_in revs rev = found_by (λ r. r.bytes) rev (length revs) (slice_get revs rev)

abbrev pub props_in : List MemRev → RevisionBytes
props_in revs rev = found_by (λ r. r.props) rev (length revs) (slice_get revs rev)

abbrev pub told_in : List MemRev → Telling (Unit {0})
told_in revs = record { revs = λ rev. Some (bytes_in revs rev); youngest = Some (length revs - 1); below = tt }
