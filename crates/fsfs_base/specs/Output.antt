-- What writing a text does to a sink.
use Rattle.std.specs.Prelude.{◌≡◌, ◌≤◌, ℕ, List, ◌++◌, Option, Result, OnOk, OnErr}
use Rattle.fsfs_base.specs.Failures.{Rose}
use Rattle.fsfs_base.specs.Streams.{Adds}

-- a first part of the text was added
abbrev pub AddsFront : Option (List ℕ) → Option (List ℕ) → List ℕ → Type 0
AddsFront old new text = (front : List ℕ) × (rest : List ℕ) × (text ≡ front ++ rest) × Adds old new front

-- a sink was given the whole text, or where it failed a first part of it
pub record Prints {E : Type 0} (old new : Option (List ℕ)) (text : List ℕ) (before now : ℕ) (result : Result (Unit {0}) E) : Type 0 where
  pub whole : OnOk result (Adds old new text)
  pub part : OnErr result (AddsFront old new text)
  pub later : before ≤ now
  pub failed : OnErr result (Rose before now)
