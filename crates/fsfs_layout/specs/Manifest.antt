-- The manifest of a packed shard: where each of its revisions begins in the pack.
use Rattle.std.specs.Prelude.{◌≡◌, ◌≤◌, ◌<◌, ◌+◌, ℕ, List, [], ◌∷◌, ◌++◌, length, slice_index}
use Rattle.std.specs.List.{AllByRecursion, flat_map}
use Rattle.std.specs.Fmt.{decimal}
use Rattle.fsfs_base.specs.declared.small_fault.SmallFile.TheVariants.{Manifest}
use Rattle.fsfs_layout.specs.Small.{IsFaultOf}
use Rattle.fsfs_layout.specs.declared.small_files.manifest_file.ManifestError.{ManifestError}
use Rattle.fsfs_layout.specs.declared.small_files.manifest_file.ManifestError.TheVariants as errors

-- `<offset>\n`
abbrev pub offset_line : ℕ → List ℕ
offset_line offset = decimal offset ++ 10 ∷ []

-- no offset is above the next
abbrev pub DontFall : List ℕ → Type 0
DontFall offsets = (i : ℕ) → i + 1 < length offsets → slice_index offsets i ≤ slice_index offsets (i + 1)

-- a line for each revision of a shard of this size: the first offset is 0, and they don't fall
pub record IsManifest (shard_size : ℕ) (text offsets : List ℕ) : Type 0 where
  pub count : length offsets ≡ shard_size
  pub first : slice_index offsets 0 ≡ 0
  pub rising : DontFall offsets
  pub fit : AllByRecursion (λ n. n ≤ 18446744073709551615) offsets
  pub lines : text ≡ flat_map offset_line offsets

abbrev pub IsOutOfMemory : ManifestError → Type 0
IsOutOfMemory errors.OutOfMemory = Unit {0}
IsOutOfMemory (errors.Fault fault) = ⊥

-- a fault names the shard's manifest and the first byte after which none goes on; want of memory may come anywhere
abbrev pub IsManifestError : (shard shard_size : ℕ) → List ℕ → ManifestError → Type 0
IsManifestError shard shard_size bytes errors.OutOfMemory = Unit {0}
IsManifestError shard shard_size bytes (errors.Fault fault) = IsFaultOf (Manifest shard) (IsManifest shard_size) bytes fault
