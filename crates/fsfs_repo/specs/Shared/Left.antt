-- What a shared repository leaves when it is closed.
use Rattle.std.specs.Prelude.{◌≡◌, ◌≤◌, ◌<◌, ℕ, List, length, true, Option, Some, None, IfSome, slice_get}
use Rattle.fsfs_base.specs.Files.{Files}
use Rattle.fsfs_begin.specs.Steps.{LeavesNoName}
use Rattle.fsfs_disk.specs.Trace.{Trace, IsImage, ImageSince, files_now}
use Rattle.fsfs_tree.specs.Histories.{IsHistory}
use Rattle.fsfs_stands.specs.Files.{StandsFor}
use Rattle.fsfs_machine.specs.declared.machine.Recorded.{Recorded}
use Rattle.fsfs_machine.specs.declared.machine.Coming.{Coming}
use Rattle.fsfs_machine.specs.Machine.{revisions}
use Rattle.fsfs_machine.specs.Kept.{IsIn, AreOnce, Follows}
use Rattle.fsfs_turn.specs.Alone.{are_harmless}
use Rattle.fsfs_turn.specs.Past.{IsPart}
use Rattle.fsfs_turn.specs.Stands.{KeepsOwnFiles}
use Rattle.fsfs_turn.specs.Views.{Begins}
use Rattle.fsfs_turn.specs.Whole.{HasHistory, HasRevision, NamesFrom}
use Rattle.fsfs_pass.specs.declared.seats.seat_view.SeatView.{SeatView}
use Rattle.fsfs_pass.specs.Seats.{all_parts}
use Rattle.fsfs_pass.specs.Kinship.{all_own}

-- There is one history, which begins with what the pass has seen. Each image of each moment since the opening, in the middle of a call too,
-- stands for a first part of it, or for it with the one revision that `current` may name though it isn't revealed; and has all that there
-- was at the opening. Each image now has all of it.
pub record Leaves (v : SeatView) (t : Trace) : Type 0 where
  pub history : List Recorded
  pub is_history : IsHistory (revisions history)
  pub begins : Begins history v.seen
  -- the last that it was told of is in it
  pub least : v.pass.least < length history
  pub doubt : Option Coming
  -- that follows the history by the landing of an entry
  pub follows : IfSome doubt (Follows history)
  pub moments : (m : Files) → ImageSince v.since.operations t.first t.operations m → (g : List Recorded) × IsPart history doubt g × (v.opened ≤ length g) × HasHistory v.layout m g × StandsFor m (revisions g)
  pub now : (m : Files) → IsImage t.first t.operations m → (g : List Recorded) × IsPart history doubt g × (length history ≤ length g) × HasHistory v.layout m g × StandsFor m (revisions g)
  -- each of all these has the files that no turn changes, in their formats and with the bytes that they had at the opening
  pub own : (m : Files) → ImageSince v.since.operations t.first t.operations m → KeepsOwnFiles v.layout v.since m
  -- so what the pass has seen is whole there
  pub whole : (m : Files) → IsImage t.first t.operations m → (r : ℕ) (x : Recorded) → slice_get v.seen r ≡ Some x → HasRevision v.layout m r x
  pub named : (m : Files) → IsImage t.first t.operations m → NamesFrom m (length v.seen)
  -- where it has met the last number of a name, no name is left
  pub full : v.full ≡ true → LeavesNoName (files_now t)
  -- no revision is twice among the pass's own and those of the passes that were joined into it
  pub once : AreOnce (all_own v)
  -- where it has all parts, it has seen the history, and each revision since the opening is one of these
  pub all : v.kin.parts ≡ all_parts → history ≡ v.seen
  pub added : v.kin.parts ≡ all_parts → (r : ℕ) → v.opened ≤ r → r < length history → IsIn r (all_own v)
  -- nor is a revision in doubt, or the lock stuck, but by a fault of one of these passes
  pub left : v.kin.parts ≡ all_parts → v.section ≡ None → doubt ≡ v.left
  pub calm : v.kin.parts ≡ all_parts → v.section ≡ None → are_harmless v.pass.faults ≡ true → (doubt ≡ None) × (v.pass.stuck ≡ None)
