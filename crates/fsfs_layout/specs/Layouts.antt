-- What a layout says, and where a revision stands in it.
use Rattle.std.specs.Prelude.{◌≡◌, ℕ, ◌/◌, ◌%◌}
use Rattle.fsfs_layout.specs.Folders.{AreShards, size_of}
use Rattle.fsfs_layout.specs.declared.format.Format.TheVariants.{Four}
use Rattle.fsfs_layout.specs.declared.layout.Layout.{Layout}

-- its revisions are in shards
abbrev pub IsSharded : Layout → Type 0
IsSharded layout = AreShards layout.folders

-- shards can be packed
pub record Packs (layout : Layout) : Type 0 where
  pub format : layout.format ≡ Four
  pub sharded : IsSharded layout

-- how many revisions a shard has; one folder counts as a shard of all the revisions that there can be
abbrev pub shard_size : Layout → ℕ
shard_size layout = size_of layout.folders

-- the shard that a revision is in; 0 in one folder
abbrev pub shard_of : Layout → ℕ → ℕ
shard_of layout rev = rev / shard_size layout

-- how many revisions stand before it in its shard, or in the one folder
abbrev pub place_in_shard : Layout → ℕ → ℕ
place_in_shard layout rev = rev % shard_size layout
