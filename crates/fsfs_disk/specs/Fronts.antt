-- The first bytes of a file.
use Rattle.std.specs.Prelude.{◌≡◌, ℕ, List, [], length, take, Option, Some, None}

-- the first bytes of a file; nothing of one that isn't there
abbrev pub IsFrontOf : List ℕ → Option (List ℕ) → Type 0
IsFrontOf front None = front ≡ []
IsFrontOf front (Some bytes) = front ≡ take (length front) bytes
