-- What a source gave, where it tells what remains in it.
use Rattle.std.specs.Prelude.{◌≡◌, ◌+◌, ℕ, List, [], ◌++◌, length, Option, Some, None}
use Rattle.fsfs_txn_files.specs.declared.proto_rev.text_error.TheConstants.{MAX_TEXT}
use Rattle.fsfs_txn_files.specs.declared.proto_rev.text_error.TextError.{TextError}
use Rattle.fsfs_txn_files.specs.declared.proto_rev.text_error.TextError.TheVariants.{SourceFault, TextTooLong, Checksum, BenchFault}

-- the source gave this text, and may have more
abbrev pub GivesFront : Option (List ℕ) → Option (List ℕ) → List ℕ → Type 0
GivesFront None new text = Unit {0}
GivesFront (Some remaining) new text = (rest : List ℕ) × (remaining ≡ text ++ rest) × (new ≡ Some rest)

-- the source gave this text, and has no more
abbrev pub GivesAll : Option (List ℕ) → Option (List ℕ) → List ℕ → Type 0
GivesAll None new text = Unit {0}
GivesAll (Some remaining) new text = (remaining ≡ text) × (new ≡ Some [])

-- a piece was not taken, behind so many bytes: the source failed, or gave the first byte past the limit
abbrev pub IsRefusedPiece : Option (List ℕ) → Option (List ℕ) → ℕ → TextError → Type 0
IsRefusedPiece old new taken SourceFault = GivesFront old new []
IsRefusedPiece old new taken TextTooLong = (piece : List ℕ) × GivesFront old new piece × (taken + length piece ≡ MAX_TEXT + 1)
IsRefusedPiece old new taken (Checksum kept found) = ⊥
IsRefusedPiece old new taken BenchFault = ⊥
