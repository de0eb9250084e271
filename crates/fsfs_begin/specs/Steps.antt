-- What the turns of a begin come to, in what the pass knows.
use Rattle.std.specs.Prelude.{◌≡◌, ◌≤◌, ◌<◌, ◌^◌, ◌-◌, ℕ, List, [], ◌∷◌, ◌++◌, length, true, false, Some, None, is_some}
use Rattle.fsfs_base.specs.Files.{Files}
use Rattle.fsfs_layout.specs.FileNames.{only_name}
use Rattle.fsfs_layout.specs.Opening.{text_at}
use Rattle.fsfs_layout.specs.Small.{IsBase36Line}
use Rattle.fsfs_layout.specs.declared.only_file.OnlyFile.TheVariants.{TxnCurrent}
use Rattle.fsfs_fetch.specs.Views.{View as StoreView}
use Rattle.fsfs_base.specs.declared.places.place.BeginPlace.{BeginPlace}
use Rattle.fsfs_base.specs.declared.places.place.DiskPlace.{DiskPlace}
use Rattle.fsfs_base.specs.declared.places.place.DiskPlace.TheVariants.{Begin}
use Rattle.fsfs_machine.specs.declared.machine.Section.{Section}
use Rattle.fsfs_machine.specs.declared.machine.Section.TheVariants.{Over}
use Rattle.fsfs_machine.specs.declared.machine.Outcome.{Outcome}
use Rattle.fsfs_machine.specs.declared.machine.Step.{Step}
use Rattle.fsfs_machine.specs.Machine.{World, last_name}
use Rattle.fsfs_machine.specs.Kept.{AllBelow}
use Rattle.fsfs_turn.specs.Alone.{BringsNoDoubt}
use Rattle.fsfs_turn.specs.Views.{View, Begins}
use Rattle.fsfs_turn.specs.Learning.{TurnedFrom}

-- what it knows that has met the last number in `txn-current`, behind which no name comes
abbrev pub met_last : View → View
met_last v = record v { full = true }

-- steps of the machine, one after another, from what the pass knew to what it knows
pub data Steps : View → View → Type 0 where
  End : (v : View) → Steps v v
  More : (lay : World → World) (step : Step) (outcome : Outcome) (v m u : View) → TurnedFrom lay step outcome v m → Steps m u → Steps v u

-- the section came to this place, and the pass saw the history as it is then
pub record Reached (s : Section) (v u : View) : Type 0 where
  pub is : u ≡ record v { pass = record v.pass { seen = length u.seen }; seen = u.seen; section = Some s }
  pub grows : Begins u.seen v.seen
  pub steps : Steps v u

-- the call at this place failed, and the section is over
pub record Stopped (place : BeginPlace) (v u : View) : Type 0 where
  pub is : u ≡ record v { pass = record v.pass { seen = length u.seen; faults = v.pass.faults ++ Begin place ∷ [] }; seen = u.seen; section = Some Over }
  pub grows : Begins u.seen v.seen
  pub steps : Steps v u

-- the section is over, and has given this name
pub record IsGiven (name : ℕ) (v u : View) : Type 0 where
  pub is : u ≡ record v { pass = record v.pass { seen = length u.seen }; seen = u.seen; section = Some Over; given = name ∷ v.given }
  pub grows : Begins u.seen v.seen
  pub steps : Steps v u

-- a name was drawn by a section of its own; the pass has seen the youngest revision that it was told of
pub record HasName (name : ℕ) (v u : View) : Type 0 where
  pub is : u ≡ record v { pass = record v.pass { seen = length u.seen }; seen = u.seen; section = None; sure = false; firm = u.firm; given = name ∷ v.given }
  pub all : v.pass.least < length u.seen
  -- each name that the pass knew to be given is below it
  pub above : AllBelow name v.given
  pub grows : Begins u.seen v.seen
  pub steps : Steps v u

-- The pass is in no section; it saw more, was told more, knows more names to be given, and faults came, none of which leaves a revision in
-- doubt. It added no revision.
pub record Moved (v u : View) : Type 0 where
  pub number : u.number ≡ v.number
  pub layout : u.layout ≡ v.layout
  pub since : u.since ≡ v.since
  pub opened : u.opened ≡ v.opened
  pub mine : u.pass.mine ≡ v.pass.mine
  pub least : v.pass.least ≤ u.pass.least
  pub grows : Begins u.seen v.seen
  pub more : List ℕ
  pub given : u.given ≡ more ++ v.given
  -- a pass that found the lock stuck knows so still
  pub still : is_some v.pass.stuck ≡ true → is_some u.pass.stuck ≡ true
  -- and one that met the last number of a name knows still that no name is left
  pub full : v.full ≡ true → u.full ≡ true
  pub outside : u.section ≡ None
  pub doubtless : BringsNoDoubt v u
  pub left : u.left ≡ v.left
  pub steps : Steps v u

-- a call failed at this place
pub record HasFault (place : DiskPlace) (u : View) : Type 0 where
  pub before : List DiskPlace
  pub later : List DiskPlace
  pub is : u.pass.faults ≡ before ++ place ∷ later

-- No name is left in these files: in `db/txn-current` the last number stands that a name has digits for, and no number comes behind it.
pub record LeavesNoName (files : Files) : Type 0 where
  pub number : ℕ
  pub line : IsBase36Line (text_at files (only_name TxnCurrent)) number
  pub last : last_name ≤ number

-- so it is, as the files are told
pub record HasLastName {Lasting : Type 0} (s : StoreView Lasting) : Type 0 where
  pub files : Files
  pub told : s.files ≡ Some files
  pub none : LeavesNoName files

-- it stood there as a call of these turns met the files
pub record MeetsLastName {T Lasting : Type 0} (store : T → StoreView Lasting) (turns : T) : Type 0 where
  pub met : T
  pub lasting : (store met).below ≡ (store turns).below
  pub last : HasLastName (store met)

-- The files are of what no reading changes, as they are for a pass that is alone.
pub record FilesStay {T Lasting : Type 0} (store : T → StoreView Lasting) : Type 0 where
  pub files : (old new : T) → (store new).below ≡ (store old).below → (store new).files ≡ (store old).files
