-- Answers of reads of single files.
use Rattle.std.specs.Prelude.{◌≡◌, ◌⊎◌, ℕ, List, length, Option, Some, None, Result, Ok, Err}
use Rattle.std.specs.FinMap as map
use Rattle.fsfs_base.specs.Files.{Files}
use Rattle.fsfs_base.specs.declared.small_fault.SmallFault.{SmallFault}
use Rattle.fsfs_revision.specs.declared.wrong.Refusal.{Refusal}
use Rattle.fsfs_revision.specs.declared.wrong.Refusal.TheVariants.{Small}
use Rattle.fsfs_revision.specs.declared.book.BookFault.{BookFault}
use Rattle.fsfs_revision.specs.declared.book.BookFault.TheVariants.{Refused, Short, DiskFault, OutOfMemory}
use Rattle.fsfs_revision.specs.Told.{part_read}
use Rattle.fsfs_fetch.specs.Views.{View, Follows}

-- the file with this name stays as it is
pub record Stays {B : Type 0} (view : View B) (name : List ℕ) (file : Option (List ℕ)) : Type 0 where
  pub now : Files
  pub told : view.files ≡ Some now
  pub later : (new : Files) → Follows view.layout view.reach now new → map.get new name ≡ file

-- the file with this name stays as it is, or goes
pub record MayGo {B : Type 0} (view : View B) (name : List ℕ) (file : Option (List ℕ)) : Type 0 where
  pub now : Files
  pub told : view.files ≡ Some now
  pub later : (new : Files) → Follows view.layout view.reach now new → (map.get new name ≡ file) ⊎ (map.get new name ≡ None)

-- a failure of the disk, or want of memory
abbrev pub OnlyMemory : BookFault → Type 0
OnlyMemory DiskFault = Unit {0}
OnlyMemory OutOfMemory = Unit {0}
OnlyMemory (Refused refusal) = ⊥
OnlyMemory (Short rev offset) = ⊥

abbrev pub size_of_file : List ℕ → Result ℕ BookFault
size_of_file bytes = Ok (length bytes)

abbrev pub part_of_file : ℕ → ℕ → ℕ → List ℕ → Result (List ℕ) BookFault
part_of_file rev offset count bytes = part_read rev offset count (Ok bytes)

-- what f gives of the file; or nothing, and then the file isn't there now
abbrev pub FromFile : {X Y : Type 0} → Option (List ℕ) → Option Files → List ℕ → (X → Y) → (List ℕ → Result Y BookFault) → Result (Option X) BookFault → Type 0
FromFile file new name view f (Ok (Some x)) = (bytes : List ℕ) × (file ≡ Some bytes) × (f bytes ≡ Ok (view x))
FromFile file new name view f (Ok None) = (m : Files) × (new ≡ Some m) × (map.get m name ≡ None)
FromFile file new name view f (Err DiskFault) = Unit {0}
FromFile file new name view f (Err OutOfMemory) = Unit {0}
FromFile file new name view f (Err (Refused refusal)) = ⊥
FromFile file new name view f (Err (Short rev offset)) = (bytes : List ℕ) × (file ≡ Some bytes) × (f bytes ≡ Err (Short rev offset))

-- what a small file says, as a book answers
abbrev pub refused : {X : Type 0} → Result X SmallFault → Result X BookFault
refused (Ok value) = Ok value
refused (Err fault) = Err (Refused (Small fault))

-- what there is of a revision, as a book answers
abbrev pub as_book : {X : Type 0} → Result X Refusal → Result X BookFault
as_book (Ok value) = Ok value
as_book (Err refusal) = Err (Refused refusal)
