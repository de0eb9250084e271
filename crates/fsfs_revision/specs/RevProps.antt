-- What a look at a property file may read, and what it answers.
use Rattle.std.specs.Prelude.{◌≡◌, ◌≤◌, ℕ, List, length, take, min, Result, Ok, Err}
use Rattle.fsfs_revision.specs.declared.wrong.Refusal.{Refusal}
use Rattle.fsfs_revision.specs.declared.wrong.Wrong.{Wrong}
use Rattle.fsfs_revision.specs.declared.wrong.Wrong.TheVariants as wrongs
use Rattle.fsfs_revision.specs.declared.book.BookFault.{BookFault}
use Rattle.fsfs_revision.specs.declared.book.BookFault.TheVariants.{Refused, Short, DiskFault, OutOfMemory}
use Rattle.fsfs_revision.specs.Told.{RevisionBytes}

-- what may be read of the property file of each revision: its bytes, or why there are none
abbrev pub MayRead : Type 1
MayRead = ℕ → Result (List ℕ) Refusal → Type 0

-- what the files say, and nothing else
abbrev pub only : RevisionBytes → MayRead
only files rev read = files rev ≡ read

-- of the revisions up to top nothing may be read but what the files say
abbrev pub ReadsOnly : MayRead → ℕ → RevisionBytes → Type 0
ReadsOnly may top files = (r : ℕ) → r ≤ top → (read : Result (List ℕ) Refusal) → may r read → files r ≡ read

-- the buffer, which was `old`, begins with the text, as much as fits, which is so many bytes
abbrev pub IsLook : List ℕ → List ℕ → List ℕ → ℕ → Type 0
IsLook text old new n = (take n new ≡ take (length old) text) × (n ≡ min (length old) (length text))

-- a refusal of a look from the beginning on, which is never past the end; a failure of the disk and want of memory say nothing
abbrev pub IfRefused : BookFault → (Refusal → Type 0) → Type 0
IfRefused (Refused why) P = P why
IfRefused (Short rev offset) P = ⊥
IfRefused DiskFault P = Unit {0}
IfRefused OutOfMemory P = Unit {0}

-- the bytes of a property file, as a reading
abbrev pub FileRead : (Result (List ℕ) Refusal → Type 0) → Result (List ℕ) Wrong → Type 0
FileRead may (Ok bytes) = may (Ok bytes)
FileRead may (Err w) = (why : Refusal) × may (Err why) × (w ≡ wrongs.Refused why)
