-- When turns can be made of a seat, to begin a job with.
use Rattle.std.specs.Prelude.{◌≡◌, ℕ, Bool, true, None, is_some, IfSome, option_map}
use Rattle.fsfs_layout.specs.declared.layout.Layout.{Layout}
use Rattle.fsfs_disk.specs.Benches.{HasShortFiles}
use Rattle.fsfs_disk.specs.Trace.{files_now}
use Rattle.fsfs_turn.specs.Telling.{TellsSeen}
use Rattle.fsfs_pass.specs.Met.{ground_of, seat_store}
use Rattle.fsfs_pass.specs.Seats.{IsSitting, view_of}
use Rattle.fsfs_pass.specs.declared.seats.seat_view.SeatView.{SeatView}

-- The seat sits, and what it met is what a pass is made of; where the disk tells, its pass is in no section, and what it has seen stands in
-- the files that it met.
pub record IsReady (layout : Layout) (low : ℕ) (tells : Bool) (v : SeatView) : Type 0 where
  pub sitting : IsSitting v
  pub laid : ground_of v ≡ record { layout = layout; low = low }
  pub met : is_some v.met ≡ v.told
  pub short : IfSome (option_map files_now v.met) HasShortFiles
  pub disk : v.told ≡ true → tells ≡ true
  pub seen : v.told ≡ true → TellsSeen v.low (seat_store v) (view_of v)
  pub outside : v.told ≡ true → v.section ≡ None

-- The seat sits; and where the disk tells, its pass is in no section.
pub record IsAtRest (v : SeatView) : Type 0 where
  pub sitting : IsSitting v
  pub outside : v.told ≡ true → v.section ≡ None
