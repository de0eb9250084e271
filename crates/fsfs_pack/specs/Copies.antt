-- The revisions of a shard, one behind another in a file of a bench.
use Rattle.std.specs.Prelude.{◌≡◌, ◌+◌, ◌<◌, ◌≤◌, ℕ, List, [], ◌∷◌, ◌++◌, length, Option, Some, None, Ok, slice_get, slice_index}
use Rattle.std.specs.FinMap.{get}
use Rattle.fsfs_base.specs.Files.{Files}
use Rattle.fsfs_layout.specs.Manifest.{DontFall}
use Rattle.fsfs_revision.specs.Told.{Told}
use Rattle.fsfs_machine.specs.declared.contents.Part.{Part}

-- the bytes of a pack
abbrev pub together : List Part → List ℕ
together [] = []
together (x ∷ xs) = x.bytes ++ together xs

-- the file has these bytes, where the bench tells
abbrev pub HasFile : Option Files → List ℕ → List ℕ → Type 0
HasFile None name bytes = Unit {0}
HasFile (Some m) name bytes = get m name ≡ Some bytes

-- the bytes of each of these are told, from the revision of this number on
abbrev pub AreTold : Told → ℕ → List Part → Type 0
AreTold told first parts = (i : ℕ) (x : Part) → slice_get parts i ≡ Some x → told (first + i) ≡ Some (Ok x.bytes)

-- The offsets begin with 0 and don't fall, and the next one is no less.
pub record AreOffsets (offsets : List ℕ) (next : ℕ) : Type 0 where
  pub first : 0 < length offsets → slice_index offsets 0 ≡ 0
  pub none : length offsets ≡ 0 → next ≡ 0
  pub rising : DontFall offsets
  pub last : (i : ℕ) → i < length offsets → slice_index offsets i ≤ next
