-- The checks of a reading, in their order, each with what is wrong where it fails. The first that fails is the answer.
use Rattle.std.specs.Prelude.{◌≡◌, ◌⊎◌, List, [], ◌∷◌, Result, Ok, Err}
use Rattle.fsfs_revision.specs.declared.wrong.Wrong.{Wrong}

-- what holds where the bytes pass, and what holds where they don't; and what is wrong with them then
pub record Check : Type 1 where
  pub Passes : Type 0
  pub Fails : Type 0
  pub apart : Passes → Fails → ⊥
  pub fault : Wrong

-- a fact that is to hold
abbrev pub must : Type 0 → Wrong → Check
must P w = record { Passes = P; Fails = P → ⊥; apart = λ p f. f p; fault = w }

-- and one that is not to hold
abbrev pub must_not : Type 0 → Wrong → Check
must_not P w = record { Passes = P → ⊥; Fails = P; apart = λ f p. f p; fault = w }

abbrev pub AllPass : List Check → Type 0
AllPass [] = Unit {0}
AllPass (check ∷ checks) = check.Passes × AllPass checks

-- this is wrong by the first check that fails: all before it pass
abbrev pub FirstFails : List Check → Wrong → Type 0
FirstFails [] w = ⊥
FirstFails (check ∷ checks) w = (check.Fails × (w ≡ check.fault)) ⊎ (check.Passes × FirstFails checks w)

-- a reading by its values, and by the checks that its values pass
abbrev pub Judged : {X : Type 0} → (X → Type 0) → List Check → Result X Wrong → Type 0
Judged P checks (Ok x) = P x
Judged P checks (Err w) = FirstFails checks w
