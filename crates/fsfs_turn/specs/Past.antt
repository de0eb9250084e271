-- What a crash at any moment since the opening might have left.
use Rattle.std.specs.Prelude.{◌≡◌, ◌⊎◌, ◌≤◌, ℕ, List, length, Option, Some, None}
use Rattle.fsfs_base.specs.Files.{Files}
use Rattle.fsfs_layout.specs.Layouts.{Packs, shard_size, place_in_shard}
use Rattle.fsfs_layout.specs.declared.layout.Layout.{Layout}
use Rattle.fsfs_disk.specs.Trace.{Trace, ImageSince}
use Rattle.fsfs_machine.specs.declared.contents.FileName.TheVariants.{Counter}
use Rattle.fsfs_machine.specs.declared.contents.Contents.TheVariants.{Number}
use Rattle.fsfs_machine.specs.declared.machine.Recorded.{Recorded}
use Rattle.fsfs_machine.specs.declared.machine.Coming.{Coming}
use Rattle.fsfs_machine.specs.declared.machine.Section.{Section}
use Rattle.fsfs_machine.specs.declared.machine.Section.TheVariants.{CurrentRenamed, CurrentFirm, Doubtful}
use Rattle.fsfs_machine.specs.declared.machine.Lock.{Lock}
use Rattle.fsfs_machine.specs.declared.machine.Lock.TheVariants.{Held, Stuck, DownDoubtful}
use Rattle.fsfs_machine.specs.Disk.{Disk, found}
use Rattle.fsfs_machine.specs.Machine.{with_next}
use Rattle.fsfs_machine.specs.Kept.{StandsFor, FloorIs}
use Rattle.fsfs_images.specs.Shown.{AreRead}
use Rattle.fsfs_turn.specs.Views.{Begins}
use Rattle.fsfs_turn.specs.declared.since.Since.{Since}

-- the revision that `current` may name though it isn't revealed
abbrev pub doubt_in : Section → Option Coming
doubt_in (CurrentRenamed x) = Some x
doubt_in (CurrentFirm x) = Some x
doubt_in (Doubtful place x) = Some x
doubt_in s = None

abbrev pub doubt : Lock → Option Coming
doubt (Held p s) = doubt_in s
doubt (Stuck place x) = Some x
doubt (DownDoubtful x) = Some x
doubt lock = None

-- the revision that a stuck lock leaves in doubt
abbrev pub stuck_with : Lock → Option Coming
stuck_with (Stuck place x) = Some x
stuck_with lock = None

-- a first part of the history, or the history with the revision in doubt
abbrev pub IsPart : List Recorded → Option Coming → List Recorded → Type 0
IsPart h d g = Begins h g ⊎ ((x : Coming) × (d ≡ Some x) × (g ≡ with_next h x))

-- only whole shards are packed, in a layout that packs
pub record IsWhole (layout : Layout) (floor : ℕ) : Type 0 where
  pub packs : Packs layout
  pub place : place_in_shard layout floor ≡ 0

-- by this floor the disk stands for such a part, which has all that there was at the opening, and all that is packed
abbrev pub IsPast : ℕ → ℕ → ℕ → List Recorded → Option Coming → Disk → Type 0
IsPast size opening f h d e = (g : List Recorded) × StandsFor size f e g × (opening ≤ length g) × IsPart h d g × (f ≤ length g)

-- there is a number for the next transaction
abbrev pub HasCounter : Disk → Type 0
HasCounter e = (k : ℕ) × (found e Counter ≡ Some (Number k))

-- it does by the floor that it shows, and shows such a number
abbrev pub StoodFor : Layout → ℕ → List Recorded → Option Coming → Disk → Type 0
StoodFor layout opening h d e = (f : ℕ) × IsWhole layout f × FloorIs f e × IsPast (shard_size layout) opening f h d e × HasCounter e

-- so do these files
abbrev pub WasLeft : Layout → ℕ → List Recorded → Option Coming → Files → Type 0
WasLeft layout opening h d m = (e : Disk) × AreRead layout m e × StoodFor layout opening h d e

-- each image of each moment since then, in the middle of a call too
abbrev pub Safe : Layout → Since → Trace → ℕ → List Recorded → Option Coming → Type 0
Safe layout since t opening h d = (m : Files) → ImageSince since.operations t.first t.operations m → WasLeft layout opening h d m
