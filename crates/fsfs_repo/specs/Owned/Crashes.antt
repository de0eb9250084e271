-- What a crash leaves of a repository.
use Rattle.std.specs.Prelude.{◌≡◌, ◌≤◌, ℕ, List, length, true, Option, Some, None, IfSome, slice_get}
use Rattle.fsfs_base.specs.Files.{Files}
use Rattle.fsfs_layout.specs.declared.layout.Layout.{Layout}
use Rattle.fsfs_disk.specs.Trace.{Trace, IsImage, ImageSince}
use Rattle.fsfs_machine.specs.declared.machine.Recorded.{Recorded}
use Rattle.fsfs_machine.specs.declared.machine.Coming.{Coming}
use Rattle.fsfs_machine.specs.Machine.{revisions}
use Rattle.fsfs_machine.specs.Kept.{Follows}
use Rattle.fsfs_stands.specs.Files.{StandsFor}
use Rattle.fsfs_turn.specs.Alone.{are_harmless}
use Rattle.fsfs_turn.specs.Past.{IsPart}
use Rattle.fsfs_turn.specs.Stands.{KeepsOwnFiles}
use Rattle.fsfs_turn.specs.Views.{View}
use Rattle.fsfs_turn.specs.Whole.{HasHistory, HasRevision, NamesFrom}

-- A crash at any moment since the opening, in the middle of a call too, leaves a repository that stands for a first part of the history,
-- which is what the pass has seen, or for the history with the one revision that `current` may name though it isn't revealed; and that has
-- all that there was at the opening. A crash now leaves all that the pass has seen, and so all that was acknowledged.
pub record Survives (layout : Layout) (t : Trace) (v : View) : Type 0 where
  -- at most one revision is in doubt, and it follows the history by the landing of an entry
  pub doubt : Option Coming
  pub follows : IfSome doubt (Follows v.seen)
  -- in no section it is the one that the pass left so
  pub left : v.section ≡ None → doubt ≡ v.left
  pub moments : (m : Files) → ImageSince v.since.operations t.first t.operations m → (g : List Recorded) × IsPart v.seen doubt g × (v.opened ≤ length g) × HasHistory layout m g × StandsFor m (revisions g)
  -- it leaves the files that no turn changes in their formats, and with the bytes that they had at the opening
  pub own : (m : Files) → ImageSince v.since.operations t.first t.operations m → KeepsOwnFiles layout v.since m
  pub whole : (m : Files) → IsImage t.first t.operations m → (r : ℕ) (x : Recorded) → slice_get v.seen r ≡ Some x → HasRevision layout m r x
  pub named : (m : Files) → IsImage t.first t.operations m → NamesFrom m (length v.seen)
  -- it leaves a repository that stands for what the pass has seen, or for that with the revision in doubt
  pub stands : (m : Files) → IsImage t.first t.operations m → (g : List Recorded) × IsPart v.seen doubt g × (length v.seen ≤ length g) × StandsFor m (revisions g)
  -- for what it has seen, where the pass is in no section and none of its faults left the lock stuck
  pub doubtless : v.section ≡ None → are_harmless v.pass.faults ≡ true → (m : Files) → IsImage t.first t.operations m → StandsFor m (revisions v.seen)

abbrev pub CrashesLeave : Layout → Option Trace → View → Type 0
CrashesLeave layout told v = IfSome told (λ t. Survives layout t v)
