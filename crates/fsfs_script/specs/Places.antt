-- How far a script was read: the line, and the bytes that are left.
use Rattle.std.specs.Prelude.{◌≡◌, ℕ, ◌+◌, List, [], ◌∷◌, ◌++◌, take, drop, Option, Some, None, ◌==◌, if◌then◌else◌}
use Rattle.std.specs.List.{count_by}

pub record Place : Type 0 where
  -- the number of the line on which the bytes begin; the first is 1
  pub line : ℕ
  pub bytes : List ℕ

abbrev pub newlines : List ℕ → ℕ
newlines text = count_by (λ b. b == 10) text

-- behind the first n bytes
abbrev pub passed : ℕ → Place → Place
passed n p = record { line = p.line + newlines (take n p.bytes); bytes = drop n p.bytes }

-- what is left of a source that tells what remains in it, behind the bytes that were read ahead
abbrev pub place_of : Option (List ℕ) → Place → Option Place
place_of None ahead = None
place_of (Some more) ahead = Some (record { line = ahead.line; bytes = ahead.bytes ++ more })

-- a piece was read, and some where some remained
abbrev pub Fills : Option (List ℕ) → Option (List ℕ) → List ℕ → Type 0
Fills None new piece = Unit {0}
Fills (Some more) new piece = (rest : List ℕ) × (more ≡ piece ++ rest) × (new ≡ Some rest) × (piece ≡ [] → more ≡ [])

-- where a place was told, it is still the same
abbrev pub Keeps : Option Place → Option Place → Type 0
Keeps None new = Unit {0}
Keeps (Some p) new = new ≡ Some p

-- this text was passed
abbrev pub Passes : Option Place → Option Place → List ℕ → Type 0
Passes None new text = Unit {0}
Passes (Some p) new text = (rest : List ℕ) × (p.bytes ≡ text ++ rest) × (new ≡ Some (record { line = p.line + newlines text; bytes = rest }))

-- no bytes are left
abbrev pub IsAtEnd : Option Place → Type 0
IsAtEnd None = Unit {0}
IsAtEnd (Some p) = p.bytes ≡ []

-- behind the empty lines that stand here
abbrev pub behind_newlines : ℕ → List ℕ → Place
behind_newlines line [] = record { line = line; bytes = [] }
behind_newlines line (b ∷ bs) = if b == 10 then behind_newlines (line + 1) bs else record { line = line; bytes = b ∷ bs }

abbrev pub behind_empty_lines : Place → Place
behind_empty_lines p = behind_newlines p.line p.bytes
