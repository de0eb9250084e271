-- The folders that the files of revisions stand in.
use Rattle.std.specs.Prelude.{ℕ, ◌<◌, ◌≤◌, ◌/◌, List, [], ◌∷◌}
use Rattle.std.specs.Coded.{×_prop, Unit-prop, le_prop}
use Rattle.std.specs.Fmt.{decimal}
use Rattle.fsfs_layout.specs.declared.folders.Folders.{Folders}
use Rattle.fsfs_layout.specs.declared.folders.Folders.TheVariants.{Shards, OneFolder}

-- a shard has from 1 to 2,147,483,647 revisions
abbrev pub AreSized : Folders → Type 0
AreSized (Shards n) = (0 < n) × (n ≤ 2147483647)
AreSized OneFolder = Unit {0}

-- in one way
pub AreSized-prop : (folders : Folders) → IsProp (AreSized folders)
AreSized-prop (Shards n) = ×_prop le_prop le_prop
AreSized-prop OneFolder = Unit-prop

abbrev pub AreShards : Folders → Type 0
AreShards (Shards n) = Unit {0}
AreShards OneFolder = ⊥

-- how many revisions a shard has; one folder counts as a shard of all the revisions that there can be
abbrev pub size_of : Folders → ℕ
size_of (Shards n) = n
size_of OneFolder = 2147483648

-- `/<shard>`, or nothing in one folder
abbrev pub shard_folder : Folders → ℕ → List ℕ
shard_folder (Shards n) rev = 47 ∷ decimal (rev / n)
shard_folder OneFolder rev = []
