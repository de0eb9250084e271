-- A change of one element of a list.
use Rattle.std.proofs.Common.{◌≡◌, ◌<◌, ◌≤◌, ℕ, suc, zero, List, [], ◌∷◌, length, get_or, refl, ap, arith}
use Rattle.std.specs.Prelude.{slice_set}
use Rattle.fsfs_machine.specs.Machine.{at_place}

pub set_at_place : {A : Type 0} (xs : List A) (p : ℕ) (d : A) (f : A → A) (y : A) → p < length xs → y ≡ f (get_or xs p d) → slice_set xs p y ≡ at_place xs p f
set_at_place [] p d f y less e = absurd (omega (arith, less))
set_at_place (x ∷ xs) zero d f y less e = ap (λ z. z ∷ xs) e
set_at_place (x ∷ xs) (suc p) d f y less e = ap (λ zs. x ∷ zs) (set_at_place xs p d f y (omega (arith, less)) e)

pub no_place : {A : Type 0} (xs : List A) (p : ℕ) (f : A → A) → length xs ≤ p → at_place xs p f ≡ xs
no_place [] p f e = refl
no_place (y ∷ ys) zero f e = absurd (omega (arith, e))
no_place (y ∷ ys) (suc p) f e = ap (λ zs. y ∷ zs) (no_place ys p f (omega (arith, e)))
