-- A store over one disk, as the machine.
use Rattle.std.specs.Prelude.{◌≡◌, ℕ, List, [], length, Bool, false, Option, Some, None, IfSome}
use Rattle.fsfs_layout.specs.Layouts.{shard_size}
use Rattle.fsfs_layout.specs.declared.layout.Layout.{Layout}
use Rattle.fsfs_disk.specs.Trace.{Trace}
use Rattle.fsfs_base.specs.declared.places.place.DiskPlace.{DiskPlace}
use Rattle.fsfs_machine.specs.Machine.{World, stuck_place, with_next}
use Rattle.fsfs_machine.specs.Kept.{Kept, coming}
use Rattle.fsfs_images.specs.Shown.{IsTraceOf}
use Rattle.fsfs_turn.specs.Bytes.{BytesShow, AllShow}
use Rattle.fsfs_turn.specs.Views.{View, Sees, with_txns}
use Rattle.fsfs_turn.specs.Past.{IsWhole, doubt, stuck_with, Safe}

-- turns change no file beside the machine's
abbrev pub no_others : List ℕ → Bool
no_others name = false

-- The disk with this trace, the floor of the opening, the youngest number and the place where the lock is stuck are those of the machine
-- in this state.
pub record IsStore (layout : Layout) (low young : ℕ) (stuck : Option DiskPlace) (t : Trace) (w : World) : Type 0 where
  pub trace : IsTraceOf layout no_others t.first t.operations w.disk
  pub size : w.size ≡ shard_size layout
  pub whole : IsWhole layout w.floor
  pub kept : Kept (with_txns [] w)
  -- the bytes beside the history show it; so do those with the revision to come
  pub shown : AllShow w.history
  pub coming : IfSome (coming w.lock) (λ x. BytesShow (with_next w.history x))
  pub low_is : w.low ≡ low
  pub young_is : w.young ≡ young
  pub stuck_is : stuck_place w.lock ≡ stuck

-- the one pass of the store knows this, where the disk tells its files and they are a store
abbrev pub Knows : Layout → ℕ → ℕ → Option DiskPlace → Option Trace → View → Type 0
Knows layout low young stuck None v = ⊥
Knows layout low young stuck (Some t) v = (w : World) × IsStore layout low young stuck t w × Sees w v × (v.layout ≡ layout) × (v.number ≡ 0)
    -- each image of each moment since the opening stands for a first part of the history, or for it with the revision in doubt
    × Safe layout v.since t v.opened w.history (doubt w.lock)
    -- there is one pass
    × (length w.passes ≡ 1)
    -- it left the revision in doubt with which the lock is stuck
    × (stuck_with w.lock ≡ v.left)
