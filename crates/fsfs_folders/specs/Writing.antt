-- How a file is written and read, piece by piece.
use Rattle.std.specs.Prelude.{◌≡◌, ◌≤◌, ℕ, ◌-◌, min, List, [], ◌∷◌, ◌++◌, length, take, drop, Option, option_map}
use Rattle.fsfs_folders.specs.System.CallRecord.{CallRecord, Append, add_call, names_now, contents_now}

-- pieces as they were written, the last in front
abbrev pub joined : List (List ℕ) → List ℕ
joined [] = []
joined (piece ∷ pieces) = joined pieces ++ piece

abbrev pub with_pieces : ℕ → List (List ℕ) → CallRecord → CallRecord
with_pieces number [] r = r
with_pieces number (piece ∷ pieces) r = add_call (Append number piece) (with_pieces number pieces r)

-- these bytes were added at the end of a file, piece by piece
abbrev pub Writes : ℕ → List ℕ → Option CallRecord → Option CallRecord → Type 0
Writes number bytes old new = (pieces : List (List ℕ)) × (joined pieces ≡ bytes) × (new ≡ option_map (with_pieces number pieces) old)

-- a write that failed: any bytes may stand there, no more than so many
abbrev pub WritesSome : ℕ → ℕ → Option CallRecord → Option CallRecord → Type 0
WritesSome number most old new = (any : List ℕ) × (length any ≤ most) × Writes number any old new

-- a buffer was filled from an offset on, as far as the bytes go
abbrev pub IsFilled : List ℕ → ℕ → List ℕ → List ℕ → ℕ → Type 0
IsFilled bytes offset old new n = (n ≡ min (length old) (length bytes - offset)) × (new ≡ take n (drop offset bytes) ++ drop n old)

-- the bytes of the file with a path
abbrev pub bytes_there : CallRecord → List ℕ → Option (List ℕ)
bytes_there r path = option_map (λ n. (contents_now r n).bytes) ((names_now r).files path)
