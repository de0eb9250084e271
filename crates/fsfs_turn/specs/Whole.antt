-- What a pass has seen is whole in each image.
use Rattle.std.specs.Prelude.{◌≡◌, ◌≤◌, ◌+◌, ℕ, List, length, Option, Some, IfSome, Ok, slice_get}
use Rattle.std.specs.FinMap.{get}
use Rattle.fsfs_base.specs.Files.{Files}
use Rattle.fsfs_layout.specs.FileNames.{file_name, only_name}
use Rattle.fsfs_layout.specs.Small.{IsRevLine}
use Rattle.fsfs_layout.specs.declared.layout.Layout.{Layout}
use Rattle.fsfs_layout.specs.declared.only_file.OnlyFile.TheVariants as only
use Rattle.fsfs_layout.specs.declared.repository_file.RepositoryFile.TheVariants as file
use Rattle.fsfs_revision.specs.RevBytes.{rev_bytes}
use Rattle.fsfs_layout.specs.Hash.Dump.{IsDump}
use Rattle.fsfs_disk.specs.Trace.{Trace, files_now, IsImage, ImageSince}
use Rattle.fsfs_base.specs.declared.places.place.DiskPlace.{DiskPlace}
use Rattle.fsfs_machine.specs.declared.machine.Recorded.{Recorded}
use Rattle.fsfs_machine.specs.declared.machine.Coming.{Coming}
use Rattle.fsfs_machine.specs.Kept.{Follows}
use Rattle.fsfs_turn.specs.Bytes.{BytesShow}
use Rattle.fsfs_turn.specs.Past.{IsPart}
use Rattle.fsfs_turn.specs.Views.{View, Begins}
use Rattle.fsfs_turn.specs.Standing.{Knows}

-- the files have the bytes beside the revision, packed or not, and its properties
pub record HasRevision (layout : Layout) (m : Files) (r : ℕ) (x : Recorded) : Type 0 where
  pub bytes : rev_bytes layout m r ≡ Ok x.bytes
  pub text : List ℕ
  pub there : get m (file_name layout (file.Props r)) ≡ Some text
  pub dump : IsDump text x.revision.properties

-- `current` names one of the revisions from the nth on
pub record NamesFrom (m : Files) (n : ℕ) : Type 0 where
  pub text : List ℕ
  pub there : get m (only_name only.Current) ≡ Some text
  pub number : ℕ
  pub line : IsRevLine text number
  pub from : n ≤ number + 1

-- each revision that a pass has seen is whole in each image, and `current` names the last of them or a later one
abbrev pub SeenIsWhole : Type 0
SeenIsWhole = (layout : Layout) (low young : ℕ) (stuck : Option DiskPlace) (t : Trace) (v : View) → Knows layout low young stuck (Some t) v → (m : Files) → IsImage t.first t.operations m
    → ((r : ℕ) (x : Recorded) → slice_get v.seen r ≡ Some x → HasRevision layout m r x) × NamesFrom m (length v.seen)

-- `current` names the last of n revisions
pub record NamesLastOf (m : Files) (n : ℕ) : Type 0 where
  pub text : List ℕ
  pub there : get m (only_name only.Current) ≡ Some text
  pub number : ℕ
  pub line : IsRevLine text number
  pub last : number + 1 ≡ n

-- The files stand for these revisions: each has its files, `current` names the last, and the bytes show them.
pub record HasHistory (layout : Layout) (m : Files) (g : List Recorded) : Type 0 where
  pub each : (r : ℕ) (x : Recorded) → slice_get g r ≡ Some x → HasRevision layout m r x
  pub names : NamesLastOf m (length g)
  pub shown : BytesShow g

-- Each image of each moment since the opening, in the middle of a call too, stands for a first part of the history now (which begins
-- with what the pass has seen), or for the history now with the one revision that `current` may name though it isn't revealed; that follows it
-- by the landing of an entry.
abbrev pub EachMomentStands : Type 0
EachMomentStands = (layout : Layout) (low young : ℕ) (stuck : Option DiskPlace) (t : Trace) (v : View) → Knows layout low young stuck (Some t) v → (m : Files) → ImageSince v.since.operations t.first t.operations m
    → (h : List Recorded) × (d : Option Coming) × (g : List Recorded) × Begins h v.seen × IsPart h d g × (v.opened ≤ length g) × HasHistory layout m g × IfSome d (Follows h)

-- From any moment on it is known that images have all that the pass has seen by then: what was acknowledged is whole in each image of
-- each later moment.
abbrev pub KnownFromNow : Type 0
KnownFromNow = (layout : Layout) (low young : ℕ) (stuck : Option DiskPlace) (t : Trace) (v : View) → Knows layout low young stuck (Some t) v → Knows layout low young stuck (Some t) (record v { since = record v.since { operations = length t.operations; files = files_now t }; opened = length v.seen })
