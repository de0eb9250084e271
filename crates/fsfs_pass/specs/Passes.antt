-- What a pass at the table knows, and what it tells one who reads.
use Rattle.std.specs.Prelude.{◌≡◌, ◌++◌, ◌||◌, ℕ, List, [], Bool, true, false, Option, None, is_some, if◌then◌else◌}
use Rattle.atomic_table.specs.Seated.{TableId}
use Rattle.fsfs_fetch.specs.Views.{View as StoreView, Reach, Grows}
use Rattle.fsfs_disk.specs.Trace.{Trace}
use Rattle.fsfs_machine.specs.Machine.{joined}
use Rattle.fsfs_turn.specs.Views.{View, Begins}
use Rattle.fsfs_turn.specs.Mountings.{Mounting}
use Rattle.fsfs_turn.specs.Telling.{TellsSeen}
use Rattle.fsfs_pass.specs.declared.seats.seat_view.Kin.{Kin}
use Rattle.fsfs_pass.specs.declared.seats.seat_view.SeatView.{SeatView}
use Rattle.fsfs_pass.specs.declared.seats.seat_view.Stage.{Stage}
use Rattle.fsfs_pass.specs.declared.seats.seat_view.Stage.TheVariants.{Sitting}
use Rattle.fsfs_pass.specs.Seats.{view_of, either_left}
use Rattle.fsfs_pass.specs.Met.{Ground, known_last, seat_store}

-- the seat has its number, and nothing is left to be told of a joining
abbrev pub is_sitting : Stage → Bool
is_sitting Sitting = true
is_sitting stage = false

-- Where a pass sits: the path that its disk was mounted for, the table, and what splitting and joining made of its seat.
pub record Seating : Type 0 where
  pub mount_path : List ℕ
  pub table : TableId
  pub kin : Kin

abbrev pub sits_at : List ℕ → TableId → Kin → Seating
sits_at path table kin = record { mount_path = path; table = table; kin = kin }

-- and how often the benches failed that it dropped
abbrev pub mounted_at : List ℕ → TableId → SeatView → Mounting Seating
mounted_at path table v = record { mount = sits_at path table v.kin; bench_faults = v.bench_failures }

-- the revisions that there are at least: those that the pass has seen or was told of; where the disk tells nothing, those up to the
-- greatest number that a look told
abbrev pub reach_by : Bool → ℕ → ℕ → Reach
reach_by told last known = Grows (if told then known else last)

-- what its seat tells
abbrev pub pass_store : ℕ → SeatView → StoreView Ground
pass_store last v = record (seat_store v) { reach = reach_by v.told last (known_last v) }

-- The disk tells, as it did first, and the pass knows what its seat's view says; what it has seen stands in the files that it met last.
pub record KnowsIt (first : Option Trace) (last : ℕ) (s : SeatView) (v : View) : Type 0 where
  pub disk : is_some first ≡ true
  pub told : s.told ≡ true
  pub is : view_of s ≡ v
  pub tells : TellsSeen s.low (pass_store last s) v

-- the pass that is split off, under this number: it knows as much, but of no revisions, faults or section of its own
abbrev pub split_off : ℕ → View → View
split_off n v = record v { number = n; pass = record v.pass { mine = []; faults = [] }; section = None; sure = false; left = None }

-- Of two passes the first knows what both knew: the longer of the two lines that they saw, the later number that either was told, the
-- greater floor, and the faults and the names given of both; and that no name is left where one did.
pub record Joins (v u z : View) : Type 0 where
  pub is : z ≡ record v { pass = joined u.pass v.pass; seen = z.seen; left = either_left v.left u.left; given = v.given ++ u.given; full = v.full || u.full }
  pub one : Begins z.seen v.seen
  pub other : Begins z.seen u.seen
