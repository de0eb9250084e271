-- What a book tells, and answers that agree with it.
use Rattle.std.specs.Prelude.{◌≡◌, ℕ, ◌<◌, ◌≤◌, nat_lt, List, length, take, drop, Option, Some, Result, Ok, Err, IfErr, if◌then◌else◌}
use Rattle.fsfs_base.specs.Counts as counts
use Rattle.fsfs_revision.specs.declared.wrong.Refusal.{Refusal}
use Rattle.fsfs_revision.specs.declared.wrong.Refusal.TheVariants.{NoRev, Missing, Small}
use Rattle.fsfs_revision.specs.declared.wrong.Wrong.{Wrong}
use Rattle.fsfs_revision.specs.declared.wrong.Wrong.TheVariants as wrongs
use Rattle.fsfs_revision.specs.declared.book.BookFault.{BookFault}
use Rattle.fsfs_revision.specs.declared.book.BookFault.TheVariants.{Refused, Short, DiskFault, OutOfMemory}

-- the bytes of each revision, or why there are none
abbrev pub RevisionBytes : Type 0
RevisionBytes = ℕ → Result (List ℕ) Refusal

-- the same, where something is told of a revision
abbrev pub Told : Type 0
Told = ℕ → Option (Result (List ℕ) Refusal)

-- all that a book tells: the bytes of revisions, the youngest revision, and what is below it, in a type of its own
pub record Telling (Below : Type 0) : Type 0 where
  pub revs : Told
  pub youngest : Option ℕ
  pub below : Below

-- look is what is told of the revisions up to top
abbrev pub Knows : Told → ℕ → RevisionBytes → Type 0
Knows told top look = (r : ℕ) → r ≤ top → told r ≡ Some (look r)

-- what was told stays true, and reading leaves what is below as it is
pub record Keeps {Below : Type 0} (old new : Telling Below) : Type 0 where
  pub revs : (r : ℕ) (read : Result (List ℕ) Refusal) → old.revs r ≡ Some read → new.revs r ≡ Some read
  pub youngest : (y : ℕ) → old.youngest ≡ Some y → new.youngest ≡ Some y
  pub below : new.below ≡ old.below

-- the size of a revision, of what is read of the revision
abbrev pub size_read : Result (List ℕ) Refusal → Result ℕ BookFault
size_read (Err refusal) = Err (Refused refusal)
size_read (Ok bytes) = Ok (length bytes)

-- up to so many bytes from an offset on, of what is read of the revision
abbrev pub part_read : ℕ → ℕ → ℕ → Result (List ℕ) Refusal → Result (List ℕ) BookFault
part_read rev offset count (Err refusal) = Err (Refused refusal)
part_read rev offset count (Ok bytes) = if nat_lt (length bytes) offset then Err (Short rev offset) else Ok (take count (drop offset bytes))

-- what a call answered, seen by view, is what reading gives; a failure of the disk and want of memory say nothing of that
abbrev pub Gives : {X Y : Type 0} → (X → Y) → Result X BookFault → Result Y BookFault → Type 0
Gives view (Ok x) read = read ≡ Ok (view x)
Gives view (Err DiskFault) read = Unit {0}
Gives view (Err OutOfMemory) read = Unit {0}
Gives view (Err (Refused refusal)) read = read ≡ Err (Refused refusal)
Gives view (Err (Short rev offset)) read = read ≡ Err (Short rev offset)

-- a refusal names the revision that was asked for
abbrev pub IsRefusalOf : ℕ → Refusal → Type 0
IsRefusalOf rev (NoRev asked youngest) = (asked ≡ rev) × (youngest < asked)
IsRefusalOf rev (Missing absent) = absent ≡ rev
IsRefusalOf rev (Small fault) = Unit {0}

-- and so does a fault, with the offset
abbrev pub IsAbout : ℕ → ℕ → BookFault → Type 0
IsAbout rev offset (Refused refusal) = IsRefusalOf rev refusal
IsAbout rev offset (Short at past) = (at ≡ rev) × (past ≡ offset)
IsAbout rev offset DiskFault = Unit {0}
IsAbout rev offset OutOfMemory = Unit {0}

abbrev pub IfDisk : BookFault → Type 0 → Type 0
IfDisk DiskFault P = P
IfDisk OutOfMemory P = Unit {0}
IfDisk (Refused refusal) P = Unit {0}
IfDisk (Short rev offset) P = Unit {0}

-- a count never falls, and rose where the disk failed
abbrev pub HasCause : {T : Type 0} → ℕ → ℕ → Result T BookFault → Type 0
HasCause before now result = counts.HasCause IfDisk before now result

-- ---- what is told, as a reading

-- look is what is told of the revision
abbrev pub IsTold : {Below : Type 0} → Telling Below → RevisionBytes → ℕ → Type 0
IsTold told look rev = told.revs rev ≡ Some (look rev)

-- the bytes of a revision
abbrev pub BytesOf : RevisionBytes → ℕ → Result (List ℕ) Wrong → Type 0
BytesOf look rev (Ok bytes) = look rev ≡ Ok bytes
BytesOf look rev (Err w) = (why : Refusal) × (look rev ≡ Err why) × (w ≡ wrongs.Refused why)
