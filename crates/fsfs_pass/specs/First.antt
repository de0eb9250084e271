-- The view of the first seat.
use Rattle.std.specs.Prelude.{◌≡◌, ◌+◌, ℕ, [], length, Option, Some, None, true, false}
use Rattle.fsfs_disk.specs.Trace.{Trace}
use Rattle.fsfs_layout.specs.declared.layout.Layout.{Layout}
use Rattle.fsfs_turn.specs.Standing.{Knows}
use Rattle.fsfs_turn.specs.Stands.{OwnFilesLast}
use Rattle.fsfs_pass.specs.declared.seats.seat_view.Hand.TheVariants.{Empty}
use Rattle.fsfs_pass.specs.declared.seats.seat_view.SeatView.{SeatView}
use Rattle.fsfs_pass.specs.Seats.{view_of, alone}

-- It holds nothing, and none of its calls failed, nor any of a bench. Where the disk tells this trace, it has met it so; it is in no section, knows what is known of
-- the store, and has seen all its revisions, as many as there were at the opening; it has added none, and met no fault; and the files that no
-- turn changes are in their formats, with the bytes of the opening, in each image since then.
abbrev pub IsFirst : Layout → ℕ → ℕ → Option Trace → SeatView → Type 0
IsFirst layout low young None v = (v.told ≡ false) × (v.hand ≡ Empty) × (v.met ≡ None) × (v.kin ≡ alone) × (v.layout ≡ layout) × (v.failures ≡ 0) × (v.bench_failures ≡ 0) × (v.low ≡ low)
IsFirst layout low young (Some t) v = (v.told ≡ true) × (v.hand ≡ Empty) × (v.sure ≡ false) × (v.section ≡ None) × (v.met ≡ Some t) × (v.kin ≡ alone) × Knows layout low young None (Some t) (view_of v) × (length v.seen ≡ young + 1)
    × OwnFilesLast layout v.since (Some t) × (v.failures ≡ 0) × (v.opened ≡ length v.seen) × (v.pass.mine ≡ []) × (v.pass.faults ≡ []) × (v.pass.stuck ≡ None) × (v.bench_failures ≡ 0) × (v.low ≡ low)
