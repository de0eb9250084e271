-- What a book over turns tells.
use Rattle.std.specs.Prelude.{◌≡◌, ◌<◌, ◌≤◌, ℕ, List, length, Option, Some, None, Result, Ok, Err, slice_get}
use Rattle.fsfs_layout.specs.Hash.Dump.{IsDump}
use Rattle.fsfs_revision.specs.declared.wrong.Refusal.{Refusal}
use Rattle.fsfs_revision.specs.Told.{Telling}
use Rattle.fsfs_revision.specs.RevProps.{MayRead}
use Rattle.fsfs_machine.specs.declared.machine.Recorded.{Recorded}
use Rattle.fsfs_fetch.specs.Views.{View as StoreView, Ends}
use Rattle.fsfs_fetch.specs.Props.{MayMeet}
use Rattle.fsfs_turn.specs.Bytes.{bytes_of}
use Rattle.fsfs_turn.specs.Views.{View}

-- of each revision that the pass has seen the bytes beside it are told
pub record TellsRevisions (v : View) {Below : Type 0} (told : Telling Below) : Type 0 where
  pub revs : (r : ℕ) → r < length v.seen → told.revs r ≡ Some (bytes_of v.seen r)

-- of those up to this one, which is told to be the youngest
pub record TellsUpTo (last : ℕ) (v : View) {Below : Type 0} (told : Telling Below) : Type 0 where
  pub revs : (r : ℕ) → r ≤ last → r < length v.seen → told.revs r ≡ Some (bytes_of v.seen r)
  pub youngest : told.youngest ≡ Some last

-- a store as it is read up to this revision, with the turns as they were first below it
abbrev pub up_to : {First Below : Type 0} → ℕ → First → StoreView Below → StoreView (First × Below)
up_to last first s = record { layout = s.layout; reach = Ends last; files = s.files; below = (first, s.below) }

-- ---- property files

-- the file is a dump of these properties
abbrev pub IsDumpOf : List (List ℕ × List ℕ) → Option (List ℕ) → Type 0
IsDumpOf properties None = ⊥
IsDumpOf properties (Some text) = IsDump text properties

-- What a look may meet, by all that is known of the pass: of a revision that it has seen a dump of its properties.
abbrev pub seen_props : (View → Type 0) → MayMeet
seen_props knows r file = (v : View) (x : Recorded) → knows v → slice_get v.seen r ≡ Some x → IsDumpOf x.revision.properties file

-- what is read is a dump of these properties
abbrev pub IsDumpRead : List (List ℕ × List ℕ) → Result (List ℕ) Refusal → Type 0
IsDumpRead properties (Ok text) = IsDump text properties
IsDumpRead properties (Err why) = ⊥

-- of each revision that the pass has seen nothing may be read but a dump of its properties
abbrev pub ReadsSeen : View → MayRead → Type 0
ReadsSeen v may = (r : ℕ) (x : Recorded) → slice_get v.seen r ≡ Some x → (read : Result (List ℕ) Refusal) → may r read → IsDumpRead x.revision.properties read

-- of those up to this one
abbrev pub ReadsUpTo : ℕ → View → MayRead → Type 0
ReadsUpTo last v may = (r : ℕ) (x : Recorded) → r ≤ last → slice_get v.seen r ≡ Some x → (read : Result (List ℕ) Refusal) → may r read → IsDumpRead x.revision.properties read
