-- The files that a seat met last, and what of them lasts.
use Rattle.std.specs.Prelude.{◌≡◌, ◌⊎◌, ◌+◌, ◌-◌, ◌<◌, ◌≤◌, ◌^◌, if◌then◌else◌, ℕ, List, length, Option, Some, None, Ok, true, option_map}
use Rattle.fsfs_base.specs.Files.{Files}
use Rattle.fsfs_layout.specs.Layouts.{shard_of}
use Rattle.fsfs_layout.specs.declared.layout.Layout.{Layout}
use Rattle.fsfs_revision.specs.RevBytes.{rev_file, floor_in, manifest_file, pack_in}
use Rattle.fsfs_fetch.specs.Views.{View as StoreView, Grows, is_packed}
use Rattle.fsfs_disk.specs.Trace.{Trace, files_now, labels_now}
use Rattle.fsfs_disk.specs.Labels.{Label}
use Rattle.fsfs_machine.specs.Machine.{World, stuck_place}
use Rattle.fsfs_turn.specs.Views.{Begins}
use Rattle.fsfs_turn.specs.Standing.{IsStore}
use Rattle.fsfs_pass.specs.declared.seats.seat_view.SeatView.{SeatView}

-- What stays of the files of the first n revisions: an own file is as it was, or it is gone; the floor doesn't fall; and what is packed stays
-- as it is.
pub record Lasts (layout : Layout) (n : ℕ) (old new : Files) : Type 0 where
  pub own : (r : ℕ) → r < n → r < 2 ^ 32 → (rev_file layout new r ≡ rev_file layout old r) ⊎ (rev_file layout new r ≡ None)
  pub floor : (f : ℕ) → floor_in layout old ≡ Ok f → (g : ℕ) × (floor_in layout new ≡ Ok g) × (f ≤ g)
  pub manifest : (r : ℕ) → r < 2 ^ 32 → is_packed layout old r ≡ true → manifest_file new (shard_of layout r) ≡ manifest_file old (shard_of layout r)
  pub pack : (r : ℕ) → r < 2 ^ 32 → is_packed layout old r ≡ true → pack_in new (shard_of layout r) ≡ pack_in old (shard_of layout r)

-- The seat met this trace in an earlier state of the machine, whose history had all that the pass has seen or was told of. What lasts of the
-- files then stands in them now.
pub record Met (layout : Layout) (w : World) (now : Trace) (v : SeatView) (t : Trace) : Type 0 where
  pub world : World
  pub store : IsStore layout world.low world.young (stuck_place world.lock) t world
  pub low : w.low ≡ world.low
  pub grown : Begins w.history world.history
  pub seen : length v.seen ≤ length world.history
  pub least : v.pass.least < length world.history
  pub lasts : Lasts layout (length world.history) (files_now t) (files_now now)

abbrev pub HasMet : Layout → World → Trace → SeatView → Type 0
HasMet layout w now v = (t : Trace) × (v.met ≡ Some t) × Met layout w now v t

-- the last revision that the pass has seen, or was told of; where the disk tells nothing, none behind the first
abbrev pub known_last : SeatView → ℕ
known_last v = if v.told then v.pass.least + (length v.seen - 1 - v.pass.least) else 0

-- what no turn changes: how the files are laid out, and the floor of the opening
pub record Ground : Type 0 where
  pub layout : Layout
  pub low : ℕ

abbrev pub ground_of : SeatView → Ground
ground_of v = record { layout = v.layout; low = v.low }

-- what the seat tells one who reads: its files as it met them last
abbrev pub seat_store : SeatView → StoreView Ground
seat_store v = record { layout = v.layout; reach = Grows (known_last v); files = option_map files_now v.met; below = ground_of v }

abbrev pub seat_labels : SeatView → Option (List Label)
seat_labels v = option_map labels_now v.met
