-- The two seats of a split are ready, as the one was.
use Rattle.std.proofs.Common.{ℕ, Bool, refl}
use Rattle.std.specs.Prelude.{Option}
use Rattle.fsfs_disk.specs.Trace.{Trace}
use Rattle.fsfs_layout.specs.declared.layout.Layout.{Layout}
use Rattle.fsfs_pass.specs.declared.seats.seat_view.SeatView.{SeatView}
use Rattle.fsfs_pass.specs.Seats.{halved_view, numbered_view, split_pass}
use Rattle.fsfs_pass.specs.Tells.{TellsIt}
use Rattle.fsfs_workers.specs.Ready.{IsAtRest, IsReady}

pub halved_ready : (layout : Layout) (low : ℕ) (tells : Bool) (v : SeatView) → IsReady layout low tells v → IsReady layout low tells (halved_view v)
halved_ready layout low tells v r = record { sitting = r.sitting; laid = r.laid; met = r.met; short = r.short; disk = r.disk; seen = r.seen; outside = r.outside }

pub split_ready : (layout : Layout) (low : ℕ) (tells : Bool) (v : SeatView) (n : ℕ) (met : Option Trace) → IsReady layout low tells v → TellsIt (numbered_view n met (split_pass v)) → IsReady layout low tells (numbered_view n met (split_pass v))
split_ready layout low tells v n met r t = record { sitting = refl; laid = r.laid; met = t.0; short = t.2; disk = r.disk; seen = t.1; outside = λ told. refl }

-- one that is ready rests
pub rested : (layout : Layout) (low : ℕ) (tells : Bool) (v : SeatView) → IsReady layout low tells v → IsAtRest v
rested layout low tells v r = record { sitting = r.sitting; outside = r.outside }
