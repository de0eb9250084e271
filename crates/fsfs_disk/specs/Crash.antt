-- What a crash may leave at each moment of a run of disk calls.
use Rattle.std.specs.Prelude.{◌≡◌, ◌⊎◌, ◌≤◌, ℕ, List, [], ◌∷◌, ◌++◌, length, true, Option, Some, None}
use Rattle.fsfs_base.specs.Files.{Files}
use Rattle.fsfs_disk.specs.Labels.{Label, has_label, AreLeft}
use Rattle.fsfs_disk.specs.Trace.{Trace, NameChange, Operation, KeepLabel, IsImage, ImageAfter, TornBy, ImageSince, change_of, files_now, files_after, labels_now, labels_after}

-- each image of this moment has P
abbrev pub AllImages : Option Trace → (Files → Type 0) → Type 0
AllImages None P = Unit {0}
AllImages (Some t) P = (m : Files) → IsImage t.first t.operations m → P m

-- a crash now leaves the files as they are, and nothing else
abbrev pub IsFirm : Option Trace → Type 0
IsFirm None = Unit {0}
IsFirm (Some t) = (m : Files) → IsImage t.first t.operations m → m ≡ files_now t

-- Each image of a moment between old and new has P, in the middle of a call too; the same for a run that began earlier.
pub record LeavesOnly (old new : Trace) (P : Files → Type 0) : Type 0 where
  pub later : length old.operations ≤ length new.operations
  pub each : (n : ℕ) (m : Files) → n ≤ length old.operations → ImageSince n new.first new.operations m → ImageSince n old.first old.operations m ⊎ P m

-- the same of what disks tell
abbrev pub Leaves : Option Trace → Option Trace → (Files → Type 0) → Type 0
Leaves None new P = Unit {0}
Leaves (Some old) None P = ⊥
Leaves (Some old) (Some new) P = LeavesOnly old new P

-- where each image has P before, each has it after and at each moment between
abbrev pub KeepsImages : Option Trace → Option Trace → (Files → Type 0) → Type 0
KeepsImages old new P = AllImages old P → AllImages new P × Leaves old new P

-- the labels in the middle of a call
abbrev pub labels_amid : NameChange → List Label → List Label
labels_amid (KeepLabel l) ls = ls ++ l ∷ []
labels_amid change ls = ls

-- what a crash now may leave: an image of the files, and each label that is kept or not
abbrev pub IsLeft : Trace → Files → List Label → Type 0
IsLeft t m ls = IsImage t.first t.operations m × AreLeft (labels_now t) ls

-- the same in the middle of a call
abbrev pub IsLeftAmid : NameChange → Files → List Label → List Operation → Files → List Label → Type 0
IsLeftAmid change first labels operations m ls =
    (ImageAfter change (files_after first operations) (IsImage first operations) m ⊎ TornBy change (IsImage first operations) m)
    × AreLeft (labels_amid change (labels_after labels operations)) ls

-- and at some moment since there were n operations
abbrev pub LeftSince : ℕ → Files → List Label → List Operation → Files → List Label → Type 0
LeftSince n first labels [] m ls = (m ≡ first) × AreLeft labels ls
LeftSince n first labels (operation ∷ operations) m ls =
    (IsImage first (operation ∷ operations) m × AreLeft (labels_after labels (operation ∷ operations)) ls)
    ⊎ ((n ≤ length operations) × (IsLeftAmid (change_of operation) first labels operations m ls ⊎ LeftSince n first labels operations m ls))

-- whatever is left at a moment between old and new has P; the same for a run that began earlier
pub record LeavesBothOnly (old new : Trace) (P : Files → List Label → Type 0) : Type 0 where
  pub later : length old.operations ≤ length new.operations
  pub each : (n : ℕ) (m : Files) (ls : List Label) → n ≤ length old.operations → LeftSince n new.first new.labels new.operations m ls → LeftSince n old.first old.labels old.operations m ls ⊎ P m ls

abbrev pub LeavesBoth : Option Trace → Option Trace → (Files → List Label → Type 0) → Type 0
LeavesBoth None new P = Unit {0}
LeavesBoth (Some old) None P = ⊥
LeavesBoth (Some old) (Some new) P = LeavesBothOnly old new P

-- each of these labels has Q
abbrev pub AreAll : (Label → Type 0) → List Label → Type 0
AreAll Q ls = (l : Label) → has_label l ls ≡ true → Q l

-- each label that is kept has Q
abbrev pub AllLabels : Option Trace → (Label → Type 0) → Type 0
AllLabels None Q = Unit {0}
AllLabels (Some t) Q = AreAll Q (labels_now t)

-- where each label that is kept has Q before, each has it after, and each that a crash leaves at a moment between
abbrev pub KeepsLabels : Option Trace → Option Trace → (Label → Type 0) → Type 0
KeepsLabels old new Q = AllLabels old Q → AllLabels new Q × LeavesBoth old new (λ m ls. AreAll Q ls)
