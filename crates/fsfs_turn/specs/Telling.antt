-- What the turns of a pass tell one who reads revisions.
use Rattle.std.specs.Prelude.{◌≡◌, ◌<◌, ◌≤◌, ℕ, List, true, Option, Some, Ok, slice_get, option_map}
use Rattle.fsfs_base.specs.Files.{Files}
use Rattle.fsfs_layout.specs.declared.layout.Layout.{Layout}
use Rattle.fsfs_layout.specs.Hash.Dump.{IsDump}
use Rattle.fsfs_disk.specs.Trace.{Trace, files_now}
use Rattle.fsfs_base.specs.declared.places.place.DiskPlace.{DiskPlace}
use Rattle.fsfs_revision.specs.RevBytes.{rev_bytes, rev_file, props_bytes}
use Rattle.fsfs_fetch.specs.Views.{View as StoreView, Ends, IsKnown, is_packed}
use Rattle.fsfs_fetch.specs.Kept.{agrees}
use Rattle.fsfs_machine.specs.declared.machine.Recorded.{Recorded}
use Rattle.fsfs_turn.specs.Bytes.{AllShow}
use Rattle.fsfs_turn.specs.Views.{View}

-- A revision can be read in these files: it has these bytes, and these properties. One from the floor of the opening on has the bytes in its
-- own file too, where there is one; others are packed.
pub record IsReadable {Lasting : Type 0} (low : ℕ) (s : StoreView Lasting) (files : Files) (r : ℕ) (x : Recorded) : Type 0 where
  pub known : IsKnown s.reach r
  pub bytes : rev_bytes s.layout files r ≡ Ok x.bytes
  pub own : low ≤ r → agrees (rev_file s.layout files r) (rev_bytes s.layout files r) ≡ true
  pub packed : r < low → is_packed s.layout files r ≡ true
  pub text : List ℕ
  pub props : props_bytes s.layout files r ≡ Ok text
  pub dump : IsDump text x.revision.properties

-- the files are told, and each revision that the pass has seen can be read in them
pub record TellsSeen {Lasting : Type 0} (low : ℕ) (s : StoreView Lasting) (v : View) : Type 0 where
  pub layout : s.layout ≡ v.layout
  pub files : Files
  pub told : s.files ≡ Some files
  pub each : (r : ℕ) (x : Recorded) → slice_get v.seen r ≡ Some x → IsReadable low s files r x
  -- the bytes beside what it has seen show it
  pub shown : AllShow v.seen

-- ---- one owned disk

-- all that what is known of an owned store is a fact of
pub record OwnedState : Type 0 where
  pub layout : Layout
  -- the floor of the opening
  pub floor : ℕ
  pub young : ℕ
  pub stuck : Option DiskPlace
  pub trace : Option Trace
  -- the path that the disk was mounted for
  pub mount_path : List ℕ
  -- how often the benches failed that it took back
  pub bench_faults : ℕ

abbrev pub state_of : Layout → ℕ → ℕ → Option DiskPlace → Option Trace → List ℕ → ℕ → OwnedState
state_of layout floor young stuck trace mount_path bench_faults = record { layout = layout; floor = floor; young = young; stuck = stuck; trace = trace; mount_path = mount_path; bench_faults = bench_faults }

abbrev pub owned_view : OwnedState → StoreView OwnedState
owned_view s = record { layout = s.layout; reach = Ends s.young; files = option_map files_now s.trace; below = s }
