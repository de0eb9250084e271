-- The end of a revision: what its trailer says, and its bytes from a place on.
use Rattle.std.specs.Prelude.{◌≡◌, ◌≤◌, ℕ, List, length, drop, Result, Ok, Err}
use Rattle.fsfs_revision.specs.Told.{RevisionBytes, BytesOf}
use Rattle.fsfs_revision.specs.declared.wrong.Wrong.{Wrong}
use Rattle.fsfs_revision.specs.Damage.Readings.{AndThen}
use Rattle.fsfs_revision.specs.declared.trailer.Trailer.{Trailer}
use Rattle.fsfs_revision.specs.Damages.{TrailerIn}

-- the trailer that ends a revision
abbrev pub TrailerOf : RevisionBytes → ℕ → Result Trailer Wrong → Type 0
TrailerOf look rev = AndThen (BytesOf look rev) (TrailerIn rev)

-- all bytes of a revision from a place on, where it has one there
abbrev pub RestOf : RevisionBytes → ℕ → ℕ → Result (List ℕ) Wrong → Type 0
RestOf look rev from (Ok rest) = (bytes : List ℕ) × (look rev ≡ Ok bytes) × (from ≤ length bytes → rest ≡ drop from bytes)
RestOf look rev from (Err w) = BytesOf look rev (Err w)
