-- The one pass of an owned store is alone: nobody else adds a revision, and nobody else leaves the lock stuck.
use Rattle.std.specs.Prelude.{◌≡◌, ◌+◌, ◌≤◌, if◌then◌else◌, ℕ, List, [], ◌∷◌, ◌++◌, length, Bool, true, false, Option, Some, None, IfSome}
use Rattle.fsfs_base.specs.Files.{Files}
use Rattle.fsfs_layout.specs.declared.layout.Layout.{Layout}
use Rattle.fsfs_disk.specs.Trace.{Trace, IsImage, ImageSince}
use Rattle.fsfs_stands.specs.Files.{StandsFor}
use Rattle.fsfs_base.specs.declared.places.place.DiskPlace.{DiskPlace}
use Rattle.fsfs_base.specs.declared.places.place.DiskPlace.TheVariants.{Commit, Pack}
use Rattle.fsfs_base.specs.declared.places.place.CommitPlace.TheVariants.{RenameCurrent, FirmCurrent}
use Rattle.fsfs_base.specs.declared.places.place.PackPlace.TheVariants.{RenameFloor, FirmFloor}
use Rattle.fsfs_machine.specs.declared.machine.Recorded.{Recorded}
use Rattle.fsfs_machine.specs.declared.machine.Coming.{Coming}
use Rattle.fsfs_machine.specs.declared.machine.Section.{Section}
use Rattle.fsfs_machine.specs.declared.machine.Section.TheVariants.{Doubtful, FloorDoubtful}
use Rattle.fsfs_machine.specs.Machine.{revisions}
use Rattle.fsfs_machine.specs.Kept.{Follows}
use Rattle.fsfs_turn.specs.Past.{IsPart}
use Rattle.fsfs_turn.specs.Views.{View, Begins}
use Rattle.fsfs_turn.specs.Standing.{Knows}
use Rattle.fsfs_turn.specs.Stands.{OwnFilesLast}
use Rattle.fsfs_turn.specs.Whole.{HasHistory}

-- A fault there leaves the lock stuck: in doubt is the revision that a commit was to add, or which of two floors a crash leaves.
abbrev pub leaves_stuck : DiskPlace → Bool
leaves_stuck (Commit RenameCurrent) = true
leaves_stuck (Commit FirmCurrent) = true
leaves_stuck (Pack RenameFloor) = true
leaves_stuck (Pack FirmFloor) = true
leaves_stuck place = false

-- none of these faults does
abbrev pub are_harmless : List DiskPlace → Bool
are_harmless [] = true
are_harmless (place ∷ places) = if leaves_stuck place then false else are_harmless places

-- none of the faults that came leaves it so
abbrev pub BringsNoDoubt : View → View → Type 0
BringsNoDoubt v u = are_harmless v.pass.faults ≡ true → are_harmless u.pass.faults ≡ true

-- the lock is to be left stuck
abbrev pub is_doubtful : Section → Bool
is_doubtful (Doubtful place x) = true
is_doubtful (FloorDoubtful place) = true
is_doubtful s = false

abbrev pub is_doubtful_at : Option Section → Bool
is_doubtful_at None = false
is_doubtful_at (Some s) = is_doubtful s

-- It has seen all revisions that there are, and those added since the opening are its own. The lock is stuck, or is to be, by a fault of
-- its own alone, one that leaves it so.
pub record IsAlone (young : ℕ) (stuck : Option DiskPlace) (v : View) : Type 0 where
  pub all : length v.seen ≡ young + 1
  pub own : length v.seen ≡ v.opened + length v.pass.mine
  pub free : are_harmless v.pass.faults ≡ true → stuck ≡ None
  pub sound : are_harmless v.pass.faults ≡ true → is_doubtful_at v.section ≡ false
  -- nor was it found so before
  pub found : are_harmless v.pass.faults ≡ true → v.pass.stuck ≡ None

-- what the one pass of a store knows; and the files that no turn changes are in their formats and have their bytes, in each image of each
-- moment since the opening
abbrev pub KnowsAlone : Layout → ℕ → ℕ → Option DiskPlace → Option Trace → View → Type 0
KnowsAlone layout low young stuck told v = Knows layout low young stuck told v × IsAlone young stuck v × OwnFilesLast layout v.since told

-- the same, of a pass that may pack
abbrev pub packing : View → View
packing v = record v { since = record v.since { packs = true } }

-- An owned store may be taken for one whose pass packs: then no more is said of the oldest revision that isn't packed.
abbrev pub MayPackAlone : Type 0
MayPackAlone = (layout : Layout) (low young : ℕ) (stuck : Option DiskPlace) (told : Option Trace) (v : View) → KnowsAlone layout low young stuck told v → KnowsAlone layout low young stuck told (packing v)

-- Behind calls by which a pass that is alone added nothing it has seen what it had seen, and the youngest revision is the one that it was.
abbrev pub AloneStays : Type 0
AloneStays = (young now : ℕ) (stuck left : Option DiskPlace) (v u : View) → IsAlone young stuck v → IsAlone now left u → Begins u.seen v.seen → u.opened ≡ v.opened → u.pass.mine ≡ v.pass.mine → (u.seen ≡ v.seen) × (now ≡ young)

-- Behind those by which it added one, that is the one behind what it had seen, and the youngest.
abbrev pub AloneAdds : Type 0
AloneAdds = (young now rev : ℕ) (stuck left : Option DiskPlace) (v u : View) (before : List Recorded) (next : Recorded) → IsAlone young stuck v → IsAlone now left u → u.seen ≡ before ++ next ∷ [] → Begins before v.seen → u.opened ≡ v.opened → u.pass.mine ≡ v.pass.mine ++ rev ∷ []
    → (before ≡ v.seen) × (now ≡ young + 1)

-- At most one revision is in doubt, and it follows what the pass has seen by the landing of an entry. Each image of each moment since the
-- opening, in the middle of a call too, stands for a first part of what the pass has seen, or for all that with this revision; and has all
-- that there was at the opening. Each image now has all that the pass has seen.
pub record LoneImages (layout : Layout) (stuck : Option DiskPlace) (t : Trace) (v : View) : Type 0 where
  pub doubt : Option Coming
  pub follows : IfSome doubt (Follows v.seen)
  pub moments : (m : Files) → ImageSince v.since.operations t.first t.operations m → (g : List Recorded) × IsPart v.seen doubt g × (v.opened ≤ length g) × HasHistory layout m g × StandsFor m (revisions g)
  pub now : (m : Files) → IsImage t.first t.operations m → (g : List Recorded) × IsPart v.seen doubt g × (length v.seen ≤ length g) × HasHistory layout m g × StandsFor m (revisions g)
  -- none is where the lock isn't stuck and the pass is in no section; in no section it is the one that the pass left so
  pub certain : v.section ≡ None → stuck ≡ None → doubt ≡ None
  pub left : v.section ≡ None → doubt ≡ v.left

abbrev pub LoneImagesStand : Type 0
LoneImagesStand = (layout : Layout) (low young : ℕ) (stuck : Option DiskPlace) (t : Trace) (v : View) → KnowsAlone layout low young stuck (Some t) v → LoneImages layout stuck t v

-- So it is where none of the pass's faults left the lock stuck: then it isn't.
abbrev pub NothingInDoubt : Type 0
NothingInDoubt = (layout : Layout) (low young : ℕ) (stuck : Option DiskPlace) (t : Trace) (v : View) → KnowsAlone layout low young stuck (Some t) v → v.section ≡ None → are_harmless v.pass.faults ≡ true
    → (stuck ≡ None) × ((m : Files) → IsImage t.first t.operations m → HasHistory layout m v.seen × StandsFor m (revisions v.seen))

-- And where it left none in doubt: also with the lock stuck by a fault of a pack, which leaves in doubt only which of two floors a crash leaves.
abbrev pub NoneLeftStands : Type 0
NoneLeftStands = (layout : Layout) (low young : ℕ) (stuck : Option DiskPlace) (t : Trace) (v : View) → KnowsAlone layout low young stuck (Some t) v → v.section ≡ None → v.left ≡ None
    → (m : Files) → IsImage t.first t.operations m → HasHistory layout m v.seen × StandsFor m (revisions v.seen)
