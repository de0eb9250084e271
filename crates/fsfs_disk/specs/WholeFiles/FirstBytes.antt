-- The first bytes of a file.
use Rattle.std.specs.Prelude.{◌≡◌, ◌<◌, ℕ, List, length, take, Option, Some, None, option_map}
use Rattle.fsfs_disk.specs.Fronts.{IsFrontOf}

-- no more than so many first bytes of a file
abbrev pub first_of : ℕ → Option (List ℕ) → Option (List ℕ)
first_of most file = option_map (λ (bytes : List ℕ). take most bytes) file

-- what was read so far are the first bytes of a file, and all of them where the last piece had none
abbrev pub IsNextPiece : Option (List ℕ) → List ℕ → Option ℕ → Type 0
IsNextPiece file items None = None ≡ file
IsNextPiece file items (Some count) = IsFrontOf items file × (count ≡ 0 → Some items ≡ file)

-- no text of the grammar has so many bytes: whatever is longer is no text of it
abbrev pub IsShorter : {X : Type 0} → ℕ → (List ℕ → X → Type 0) → Type 0
IsShorter {X} most G = (text : List ℕ) (x : X) → G text x → length text < most
