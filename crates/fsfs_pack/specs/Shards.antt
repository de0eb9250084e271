-- Shards that are full and not packed.
use Rattle.std.specs.Prelude.{◌≡◌, ◌+◌, ◌<◌, ◌≤◌, ◌⊎◌, ℕ}
use Rattle.fsfs_base.specs.Fields.RevNums.{last_rev}
use Rattle.fsfs_layout.specs.Layouts.{Packs, shard_size, place_in_shard}
use Rattle.fsfs_layout.specs.declared.layout.Layout.{Layout}
use Rattle.fsfs_pack.specs.declared.shard.Shard.{Shard}

-- from the first revision of a shard to that of the next one, in a layout that packs
pub record IsShard (x : Shard) : Type 0 where
  pub packs : Packs x.layout
  pub place : place_in_shard x.layout x.first ≡ 0
  pub next : x.next ≡ x.first + shard_size x.layout

-- No shard at the floor is full: the youngest revision is before its last one. Or the floor above it would be no revision's number.
abbrev pub IsNoneFull : Layout → ℕ → ℕ → Type 0
IsNoneFull layout floor youngest = (youngest + 1 < floor + shard_size layout) ⊎ (last_rev < floor + shard_size layout)

-- none is, or the layout doesn't pack
abbrev pub IsNoneThere : Layout → ℕ → ℕ → Type 0
IsNoneThere layout floor youngest = (Packs layout → ⊥) ⊎ IsNoneFull layout floor youngest

-- this is the shard at the floor, and it is full
pub record IsFull (layout : Layout) (floor youngest : ℕ) (x : Shard) : Type 0 where
  pub layout_is : x.layout ≡ layout
  pub first : x.first ≡ floor
  pub shard : IsShard x
  pub full : x.next ≤ youngest + 1
  -- the floor above it is a revision's number
  pub fits : x.next ≤ last_rev
