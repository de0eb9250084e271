-- How the name of a new transaction is drawn, call by call.
use Rattle.std.specs.Prelude.{◌<◌, ℕ, List, length, Result, Ok, Err}
use Rattle.fsfs_base.specs.declared.grammar.base36.B36.{B36}
use Rattle.fsfs_base.specs.declared.fields.txn_name.TxnName.{TxnName}
use Rattle.fsfs_begin.specs.declared.name_fault.NameFault.{NameFault}
use Rattle.fsfs_begin.specs.declared.name_fault.NameFault.TheVariants.{Small, NamesFull, DiskFault, Memory}
use Rattle.fsfs_base.specs.declared.places.place.BeginPlace.{BeginPlace}
use Rattle.fsfs_machine.specs.declared.machine.Drawn.{Drawn}
use Rattle.fsfs_machine.specs.declared.machine.Section.TheVariants.{CountRead}
use Rattle.fsfs_machine.specs.Machine.{last_name}
use Rattle.fsfs_machine.specs.Kept.{AllBelow}
use Rattle.fsfs_turn.specs.Learning.{drawn_of}
use Rattle.fsfs_turn.specs.Views.{View}
use Rattle.fsfs_begin.specs.Steps.{Reached, Stopped, IsGiven, HasName, Moved}
use Rattle.fsfs_begin.specs.Faults.{Cause}
use Rattle.fsfs_begin.specs.declared.begin_fault.BeginFault.{BeginFault}
use Rattle.fsfs_base.specs.declared.small_fault.SmallFile.TheVariants as file
use Rattle.fsfs_layout.specs.Small.{IsBase36Line, IsRefusedFile}

-- these bytes are in no form, and nothing else is wrong
abbrev pub IsSmallIn : List ℕ → NameFault → Type 0
IsSmallIn text (Small fault) = IsRefusedFile file.TxnCurrent IsBase36Line text fault
IsSmallIn text NamesFull = ⊥
IsSmallIn text (DiskFault call) = ⊥
IsSmallIn text Memory = ⊥

-- the number was read, as the section's first call
pub record HasRead (base number : ℕ) (v u : View) : Type 0 where
  pub reached : Reached (CountRead (drawn_of base number)) v u
  pub all : v.pass.least < length u.seen
  pub small : number < last_name
  -- each name that the pass knew to be given is below it
  pub above : AllBelow number v.given

-- why no name was drawn, and where the section stands
abbrev pub IsUndrawn : ℕ → NameFault → View → View → Type 0
IsUndrawn base (Small fault) v u = ⊥
IsUndrawn base NamesFull v u = ⊥
IsUndrawn base (DiskFault place) v u = Stopped place v u
IsUndrawn base Memory v u = (number : ℕ) × Reached (CountRead (drawn_of base number)) v u

abbrev pub Counts : (View → Type 0) → ℕ → Result B36 NameFault → View → Type 0
Counts known base (Ok b) v = (u : View) × known u × HasRead base b.number v u
Counts known base (Err why) v = (u : View) × known u × IsUndrawn base why v u

-- the next number took the place of the one that was read, or a call of that failed
abbrev pub Raises : (View → Type 0) → Drawn → Result (Unit {0}) BeginPlace → View → Type 0
Raises known x (Ok done) v = (u : View) × known u × IsGiven x.name v u
Raises known x (Err place) v = (u : View) × known u × Stopped place v u

-- with the lock held
abbrev pub Draws : (View → Type 0) → ℕ → Result TxnName NameFault → View → Type 0
Draws known base (Ok name) v = (u : View) × known u × IsGiven name.number.number v u × (v.pass.least < length u.seen) × AllBelow name.number.number v.given
Draws known base (Err why) v = (u : View) × known u × IsUndrawn base why v u

-- by a section of its own
abbrev pub Drew : (View → Type 0) → ℕ → Result TxnName BeginFault → View → Type 0
Drew known base (Ok name) v = (u : View) × known u × HasName name.number.number v u
Drew known base (Err why) v = (u : View) × known u × Moved v u × Cause base why u
