-- How long a caller is held.
use Rattle.std.specs.Prelude.{ℕ}

-- in turns
abbrev pub most_turns : ℕ
most_turns = 20000000
