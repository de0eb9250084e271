-- Lines `<name>: <value>\n`.
use Rattle.std.specs.Prelude.{◌≢◌, ℕ, List, [], ◌∷◌, ◌++◌, Option, Some, None, ◌==◌, if◌then◌else◌}
use Rattle.fsfs_base.specs.Grammar.Cuts.{Lacks, cut, and_then}

-- a line's name is not empty and has no colon and no end of a line, and its value has no end of a line
pub record IsPair (pair : List ℕ × List ℕ) : Type 0 where
  pub filled : pair.0 ≢ []
  pub colon : Lacks 58 pair.0
  pub name : Lacks 10 pair.0
  pub value : Lacks 10 pair.1

abbrev pub line : List ℕ × List ℕ → List ℕ
line pair = pair.0 ++ 58 ∷ 32 ∷ pair.1 ++ 10 ∷ []

-- reading: the name and the value of a line without its end
abbrev pub spaced : List ℕ → List ℕ → Option (List ℕ × List ℕ)
spaced [] rest = None
spaced (c ∷ name) [] = None
spaced (c ∷ name) (b ∷ bs) = if b == 32 then Some (c ∷ name, bs) else None

abbrev pub pair_at : List ℕ → Option (List ℕ × List ℕ)
pair_at text = and_then (cut 58 text) (λ p. spaced p.0 p.1)
