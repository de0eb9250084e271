-- What a disk tells, its trace, and what follows from it: the files now, and what a crash may leave of them.
-- The crash model is this project's profile.
use Rattle.std.specs.Prelude.{◌≡◌, ◌⊎◌, ◌≤◌, ℕ, ◌-◌, min, List, [], ◌∷◌, ◌++◌, length, take, drop, Bool, true, false, Option, Some, None, option_map}
use Rattle.std.specs.FinMap as map
use Rattle.fsfs_base.specs.Files.{Files, renamed}
use Rattle.fsfs_disk.specs.Labels.{Label, with_label, without_label}

-- A change of names or of labels. `Adopt` names a firm file of a bench, `FirmNames` makes every change of names before it firm.
-- A label isn't firm while it is kept, and gone once it is dropped.
pub data NameChange : Type 0 where
  Put : List ℕ → List ℕ → NameChange
  Adopt : List ℕ → List ℕ → NameChange
  Rename : List ℕ → List ℕ → NameChange
  Remove : List ℕ → NameChange
  FirmNames : NameChange
  KeepLabel : Label → NameChange
  DropLabel : Label → NameChange

-- a call that was done, or one that failed and left the files from before
pub data Operation : Type 0 where
  Done : NameChange → Operation
  Attempted : NameChange → Operation

-- the firm files and the labels that a disk began with, and its operations since, the newest first
pub record Trace : Type 0 where
  pub first : Files
  pub labels : List Label
  pub operations : List Operation

-- what a change makes of the files
abbrev pub changed : NameChange → Files → Files
changed (Put name bytes) m = map.insert m name bytes
changed (Adopt name bytes) m = map.insert m name bytes
changed (Rename from to) m = renamed m from to (map.get m from)
changed (Remove name) m = map.remove m name
changed FirmNames m = m
changed (KeepLabel l) m = m
changed (DropLabel l) m = m

-- and of the labels
abbrev pub relabelled : NameChange → List Label → List Label
relabelled (KeepLabel l) ls = with_label l ls
relabelled (DropLabel l) ls = without_label l ls
relabelled change ls = ls

abbrev pub files_after : Files → List Operation → Files
files_after first [] = first
files_after first (Done change ∷ operations) = changed change (files_after first operations)
files_after first (Attempted change ∷ operations) = files_after first operations

abbrev pub labels_after : List Label → List Operation → List Label
labels_after first [] = first
labels_after first (Done change ∷ operations) = relabelled change (labels_after first operations)
labels_after first (Attempted change ∷ operations) = labels_after first operations

-- the labels that are kept now
abbrev pub labels_now : Trace → List Label
labels_now trace = labels_after trace.labels trace.operations

-- the files now
abbrev pub files_now : Trace → Files
files_now trace = files_after trace.first trace.operations

-- the bytes of the file with a name, if there is one
abbrev pub file_at : Trace → List ℕ → Option (List ℕ)
file_at trace name = map.get (files_now trace) name

-- What a crash right after a change may leave: each change that isn't firm is there or not.
-- `now` are the files that the change met, `Before` says what a crash before it could leave.
abbrev pub ImageAfter : NameChange → Files → (Files → Type 0) → Files → Type 0
ImageAfter (Put name bytes) now Before m = Before m ⊎ ((was : Files) × Before was × (m ≡ map.insert was name bytes))
ImageAfter (Adopt name bytes) now Before m = Before m ⊎ ((was : Files) × Before was × (m ≡ map.insert was name bytes))
ImageAfter (Rename from to) now Before m = Before m ⊎ ((was : Files) × Before was × (m ≡ renamed was from to (map.get now from)))
ImageAfter (Remove name) now Before m = Before m ⊎ ((was : Files) × Before was × (m ≡ map.remove was name))
ImageAfter FirmNames now Before m = m ≡ now
ImageAfter (KeepLabel l) now Before m = Before m
ImageAfter (DropLabel l) now Before m = Before m

-- what a crash now may leave: any subset of the changes that aren't firm, in order
abbrev pub IsImage : Files → List Operation → Files → Type 0
IsImage first [] m = m ≡ first
IsImage first (Done change ∷ operations) m = ImageAfter change (files_after first operations) (IsImage first operations) m
IsImage first (Attempted change ∷ operations) m = IsImage first operations m

-- what a crash in the middle of a call may leave besides: a torn put gives the name any bytes
abbrev pub TornBy : NameChange → (Files → Type 0) → Files → Type 0
TornBy (Put name bytes) Before m = (any : List ℕ) × (was : Files) × Before was × (m ≡ map.insert was name any)
TornBy (Adopt name bytes) Before m = ⊥
TornBy (Rename from to) Before m = ⊥
TornBy (Remove name) Before m = ⊥
TornBy FirmNames Before m = ⊥
TornBy (KeepLabel l) Before m = ⊥
TornBy (DropLabel l) Before m = ⊥

abbrev pub change_of : Operation → NameChange
change_of (Done change) = change
change_of (Attempted change) = change

-- what a crash at some moment since there were n operations might have left, between two calls or in the middle of one
abbrev pub ImageSince : ℕ → Files → List Operation → Files → Type 0
ImageSince n first [] m = m ≡ first
ImageSince n first (operation ∷ operations) m = IsImage first (operation ∷ operations) m
    ⊎ ((n ≤ length operations) × (ImageAfter (change_of operation) (files_after first operations) (IsImage first operations) m
    ⊎ (TornBy (change_of operation) (IsImage first operations) m ⊎ ImageSince n first operations m)))

abbrev pub add_operation : Operation → Trace → Trace
add_operation operation trace = record trace { operations = operation ∷ trace.operations }

-- a call that did its change
abbrev pub Performs : NameChange → Option Trace → Option Trace → Type 0
Performs change old new = new ≡ option_map (add_operation (Done change)) old

-- a call that failed in the middle, and left the files from before
abbrev pub Attempts : NameChange → Option Trace → Option Trace → Type 0
Attempts change old new = new ≡ option_map (add_operation (Attempted change)) old

-- a failed call touched nothing, or leaves the files from before, or those of success
abbrev pub FailsAt : NameChange → Option Trace → Option Trace → Type 0
FailsAt change old new = (new ≡ old) ⊎ (Attempts change old new ⊎ Performs change old new)

-- a failed put may also leave the name with any bytes
abbrev pub FailsToPut : List ℕ → List ℕ → Option Trace → Option Trace → Type 0
FailsToPut name bytes old new = (new ≡ old) ⊎ (Attempts (Put name bytes) old new ⊎ ((any : List ℕ) × Performs (Put name any) old new))

-- a failed call that did nothing touched nothing, or left a mark
abbrev pub StaysAt : NameChange → Option Trace → Option Trace → Type 0
StaysAt change old new = (new ≡ old) ⊎ Attempts change old new

-- a failed adoption leaves both the disk and the bench's files as they were, or both as success does
abbrev pub FailsToAdopt : NameChange → Option Trace → Option Trace → (Files → Files) → Option Files → Option Files → Type 0
FailsToAdopt change old new without held left =
    (StaysAt change old new × (left ≡ held)) ⊎ (Performs change old new × (left ≡ option_map without held))

-- a read fills the buffer from an offset on, as far as the file goes; past its end that is nothing
abbrev pub IsRead : Option (List ℕ) → ℕ → List ℕ → List ℕ → Option ℕ → Type 0
IsRead None offset old new found = (found ≡ None) × (new ≡ old)
IsRead (Some bytes) offset old new found =
    let n = min (length old) (length bytes - offset) in
    (found ≡ Some n) × (new ≡ take n (drop offset bytes) ++ drop n old)

abbrev pub IsSize : Option (List ℕ) → Option ℕ → Type 0
IsSize file found = found ≡ option_map (λ bytes. length bytes) file

abbrev pub IsThere : Option (List ℕ) → Bool → Type 0
IsThere None there = there ≡ false
IsThere (Some bytes) there = there ≡ true

-- the change was done where the file was there, and nothing where it wasn't
abbrev pub PerformsIfThere : Bool → NameChange → Option Trace → Option Trace → Type 0
PerformsIfThere true change old new = Performs change old new
PerformsIfThere false change old new = new ≡ old
