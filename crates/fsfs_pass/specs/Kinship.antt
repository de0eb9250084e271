-- Which passes were joined into which: what is true of all seats together.
use Rattle.std.specs.Prelude.{◌≡◌, ◌+◌, ◌<◌, ℕ, List, [], ◌∷◌, ◌++◌, map, Bool, true, false}
use mathlib.Core.Option.{some}
use lib.ListN.{get_elem?}
use Rattle.fsfs_machine.specs.Kept.{IsIn, AreOnce}
use Rattle.fsfs_pass.specs.declared.seats.seat_view.SeatView.{SeatView}
use Rattle.fsfs_pass.specs.Seats.{all_parts, is_left}

-- the numbers of the passes that were joined into the seat's
abbrev pub numbers_of : List (ℕ × List ℕ) → List ℕ
numbers_of xs = map (λ x. x.0) xs

-- the revisions of these passes
abbrev pub own_in : List (ℕ × List ℕ) → List ℕ
own_in [] = []
own_in (x ∷ xs) = x.1 ++ own_in xs

-- the revisions of the seat's pass, and of those that were joined into it
abbrev pub all_own : SeatView → List ℕ
all_own v = v.pass.mine ++ own_in v.kin.joined

-- a seat, without what it knows of the store
pub record Branch : Type 0 where
  pub left : Bool
  pub parts : ℕ
  pub numbers : List ℕ

abbrev pub branch_of : SeatView → Branch
branch_of v = record { left = is_left v.kin.stage; parts = v.kin.parts; numbers = numbers_of v.kin.joined }

abbrev pub branches : List SeatView → List Branch
branches views = map (λ v. branch_of v) views

abbrev pub parts_in : List Branch → ℕ
parts_in [] = 0
parts_in (b ∷ bs) = b.parts + parts_in bs

pub record Kinship (bs : List Branch) : Type 0 where
  pub total : parts_in bs ≡ all_parts
  pub parts : (j : ℕ) (b : Branch) → get_elem? bs j ≡ some b → b.left ≡ false → 0 < b.parts
  -- into which seat's pass that of a seat which has left came
  pub heir : ℕ → ℕ
  pub heirs : (j : ℕ) (b : Branch) → get_elem? bs j ≡ some b → b.left ≡ true → (c : Branch) × (get_elem? bs (heir j) ≡ some c) × (c.left ≡ false) × IsIn j c.numbers
  pub joined : (j : ℕ) (b : Branch) → get_elem? bs j ≡ some b → (q : ℕ) → IsIn q b.numbers → (heir q ≡ j) × (c : Branch) × (get_elem? bs q ≡ some c) × (c.left ≡ true)
  pub once : (j : ℕ) (b : Branch) → get_elem? bs j ≡ some b → AreOnce b.numbers

-- the first seat of two, into whose pass that of the other came, which was the seat of this number
abbrev pub grown : Branch → ℕ → Branch → Branch
grown v q z = record { left = false; parts = v.parts + z.parts; numbers = v.numbers ++ q ∷ z.numbers }

abbrev pub gone : Branch
gone = record { left = true; parts = 0; numbers = [] }
