-- The bytes beside the revisions that a pass has seen show them.
use Rattle.std.proofs.Common.{ℕ}
use Rattle.std.specs.Prelude.{Option, Some, None}
use Rattle.fsfs_layout.specs.declared.layout.Layout.{Layout}
use Rattle.fsfs_disk.specs.Trace.{Trace}
use Rattle.fsfs_base.specs.declared.places.place.DiskPlace.{DiskPlace}
use Rattle.fsfs_turn.specs.Bytes.{AllShow}
use Rattle.fsfs_turn.specs.Views.{View}
use Rattle.fsfs_turn.specs.Alone.{KnowsAlone}

-- what a pass has seen is shown
pub known_shown : (layout : Layout) (low young : ℕ) (stuck : Option DiskPlace) (told : Option Trace) (v : View) → KnowsAlone layout low young stuck told v → AllShow v.seen
known_shown layout low young stuck None v known = absurd known.0
known_shown layout low young stuck (Some t) v known = known.0.2.shown
