-- The bytes beside the revisions of a history show it.
use Rattle.std.specs.Prelude.{◌≡◌, ◌<◌, ℕ, List, take, Option, Some, None, Ok, Err, Result, slice_get}
use Rattle.std.specs.FinMap.{get}
use Rattle.fsfs_tree.specs.Dated.{IsDated, last_of}
use Rattle.fsfs_revision.specs.declared.wrong.Refusal.{Refusal}
use Rattle.fsfs_revision.specs.declared.wrong.Refusal.TheVariants.{Missing}
use Rattle.fsfs_revision.specs.Told.{RevisionBytes}
use Rattle.fsfs_revision.specs.Shows.Shown.{Shows}
use Rattle.fsfs_revision.specs.Shows.IdRules.{IdRule}
use Rattle.fsfs_stands.specs.Changes.{AreChangesOf}
use Rattle.fsfs_machine.specs.declared.machine.Recorded.{Recorded}
use Rattle.fsfs_machine.specs.Machine.{revisions}

abbrev pub bytes_beside : ℕ → Option Recorded → Result (List ℕ) Refusal
bytes_beside r None = Err (Missing r)
bytes_beside r (Some x) = Ok x.bytes

-- the bytes of each revision, as the history has them
abbrev pub bytes_of : List Recorded → RevisionBytes
bytes_of h r = bytes_beside r (slice_get h r)

-- they show this revision
pub record ShowsOne (look : RevisionBytes) (r : ℕ) (x : Recorded) : Type 0 where
  pub tree : Shows look r (get x.revision.tree)
  pub changes : AreChangesOf look r x.bytes x.revision.changes
  pub dated : IsDated x.revision.properties

-- each of them, and the node-revisions hang together
pub record BytesShow (h : List Recorded) : Type 0 where
  pub each : (r : ℕ) (x : Recorded) → slice_get h r ≡ Some x → ShowsOne (bytes_of h) r x
  pub ids : IdRule (bytes_of h) (last_of (revisions h))

-- so do those of each first part
abbrev pub AllShow : List Recorded → Type 0
AllShow h = (n : ℕ) → 0 < n → BytesShow (take n h)
