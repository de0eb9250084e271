-- Two lists in turn, and the shares of the workers that make them.
use Rattle.std.specs.Prelude.{◌≡◌, ◌⊎◌, ◌+◌, ◌-◌, ℕ, zero, suc, List, [], ◌∷◌}

-- one of the first, one of the second, and so on
abbrev pub in_turn : {X : Type 0} → List X → List X → List X
in_turn [] ys = ys
in_turn (x ∷ xs) [] = x ∷ xs
in_turn (x ∷ xs) (y ∷ ys) = x ∷ y ∷ in_turn xs ys

-- they are what two workers made of things that were dealt out to them: as many, or the first has one more
abbrev pub AreDealt : ℕ → ℕ → Type 0
AreDealt ones others = (ones ≡ others) ⊎ (ones ≡ others + 1)

-- how many of the workers have their turn before this one's next, behind so many things
abbrev pub turn_after : {X : Type 0} → ℕ → ℕ → List X → ℕ
turn_after n w [] = w
turn_after n zero (x ∷ xs) = turn_after n (n - 1) xs
turn_after n (suc w) (x ∷ xs) = turn_after n w xs
