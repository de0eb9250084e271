-- What a commit's section comes to.
use Rattle.std.specs.Prelude.{◌≡◌, ◌<◌, ◌^◌, ℕ, List, [], ◌∷◌, ◌++◌, length, Bool, true, false, if◌then◌else◌, Some, None, Result, OnOk, IfErr}
use Rattle.fsfs_tree.specs.Revisions.{Revision}
use Rattle.fsfs_layout.specs.Small.{IsRevLine}
use Rattle.fsfs_layout.specs.Hash.Dump.{IsDump}
use Rattle.fsfs_machine.specs.declared.machine.Coming.{Coming}
use Rattle.fsfs_machine.specs.declared.machine.Txn.{Txn}
use Rattle.fsfs_machine.specs.declared.machine.Section.{Section}
use Rattle.fsfs_machine.specs.declared.machine.Section.TheVariants.{Doubtful, Over}
use Rattle.fsfs_base.specs.declared.places.place.DiskPlace.TheVariants.{Commit}
use Rattle.fsfs_base.specs.declared.places.place.CommitPlace.{CommitPlace}
use Rattle.fsfs_base.specs.declared.places.place.CommitPlace.TheVariants.{RenameCurrent, FirmCurrent}
use Rattle.fsfs_machine.specs.declared.machine.Step.{Step}
use Rattle.fsfs_machine.specs.declared.machine.Step.TheVariants.{GiveLock, StickLock}
use Rattle.fsfs_machine.specs.Machine.{reveals, with_next}
use Rattle.fsfs_turn.specs.Views.{View, left_by, LockGiven, MayAdopt, rev_name, props_name, coming_of}
use Rattle.fsfs_turn.specs.Courses.{Course}

-- what is written, for the revision that follows what the pass has seen
pub record IsMade (v : View) (properties : List (List ℕ × List ℕ)) (rev : ℕ) (rev_file props_file props_bytes current : List ℕ) : Type 0 where
  pub number : rev ≡ length v.seen
  pub rev_named : rev_file ≡ rev_name v rev
  pub props_named : props_file ≡ props_name v rev
  pub dump : IsDump props_bytes properties
  pub line : IsRevLine current rev
  pub fits : length v.seen < 2 ^ 32

-- A commit's section may begin: of what is known these are the bytes of the revision to come, and this is what is written.
pub record MayPublish (knows : View → Type 0) (holds : Txn → Revision → List ℕ → Type 0) (properties : List (List ℕ × List ℕ)) (rev : ℕ) (rev_file props_file props_bytes current : List ℕ) : Type 0 where
  pub view : View
  pub txn : Txn
  pub next : Revision
  pub bytes : List ℕ
  pub known : knows view
  pub held : holds txn next bytes
  pub may : MayAdopt view txn properties next bytes
  pub made : IsMade view properties rev rev_file props_file props_bytes current

-- the revision was added, and the lock given
pub record Published (txn : Txn) (properties : List (List ℕ × List ℕ)) (next : Revision) (bytes : List ℕ) (v u : View) : Type 0 where
  pub is : u ≡ record v { pass = reveals (length v.seen) v.pass; seen = with_next v.seen (coming_of v txn properties next bytes); section = None; sure = false }
  pub course : Course v u

-- after a fault at this place `current` may name the revision or not
abbrev pub leaves_doubt : CommitPlace → Bool
leaves_doubt RenameCurrent = true
leaves_doubt FirmCurrent = true
leaves_doubt place = false

-- then the lock is left stuck, else it is given
abbrev pub ends_at : CommitPlace → ℕ → Step
ends_at place p = if leaves_doubt place then StickLock p else GiveLock p

-- where a fault at a place of the commit leaves the section
abbrev pub spoilt : Coming → CommitPlace → Section
spoilt x place = if leaves_doubt place then Doubtful (Commit place) x else Over

-- the call at this place failed: nothing was added, and the lock was given, or left stuck there; then the revision that was to come is left in doubt
pub record StoppedAt (place : CommitPlace) (x : Coming) (v u : View) : Type 0 where
  pub is : u ≡ record v { pass = record v.pass { seen = length v.seen; faults = v.pass.faults ++ Commit place ∷ [] }; section = None; sure = false; left = left_by (Some (spoilt x place)) v.left }
  pub before : View
  pub course : Course v before
  pub last : LockGiven (ends_at place v.number) before u

-- The pass came to this place of its section, and knows no more.
pub record Reached (s : Section) (v u : View) : Type 0 where
  pub is : u ≡ record v { pass = record v.pass { seen = length v.seen }; section = Some s }
  pub course : Course v u

-- The call at this place failed, and left the section so.
pub record Failed (place : CommitPlace) (s : Section) (v u : View) : Type 0 where
  pub is : u ≡ record v { pass = record v.pass { seen = length v.seen; faults = v.pass.faults ++ Commit place ∷ [] }; section = Some s }
  pub course : Course v u

-- calls of a commit's section from v: to s, or to the first that failed
pub record Goes (known : View → Type 0) (result : Result (Unit {0}) CommitPlace) (x : Coming) (s : Section) (v : View) : Type 0 where
  pub done : OnOk result ((u : View) × known u × Reached s v u)
  pub failed : IfErr result (λ place. (u : View) × known u × Failed place (spoilt x place) v u)

-- the revision was revealed, and the lock given
pub record Ended (x : Coming) (v u : View) : Type 0 where
  pub is : u ≡ record v { pass = reveals (length v.seen) v.pass; seen = with_next v.seen x; section = None; sure = false }
  pub course : Course v u
